-- The name of a page's file.
use Rattle.std.specs.Prelude.{ℕ, List, ◌++◌, codes, decimal}

-- FOLDER/page-N and an ending
unfoldable pub page_name : List ℕ → ℕ → List ℕ → List ℕ
page_name folder n ending = folder ++ codes "/page-" ++ decimal n ++ ending
