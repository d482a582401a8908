-- Names of pages' files: beside each computed name stands what it must be. A layout's pages are 0 to 7; the others are numbers of more digits.
-- Assumes nothing.
use Rattle.std.specs.Prelude.{ℕ, List, [], ◌∷◌, codes}
use Rattle.tool.specs.Paths.{page_name}

-- what is computed, and what it must be
abbrev pub Line : Type 0
Line = List ℕ × List ℕ

unfoldable pub name_lines : List Line
name_lines =
    (page_name (codes "out") 0 (codes ".rgba"), codes "out/page-0.rgba")
    ∷ (page_name (codes "out") 7 (codes ".rgba.new"), codes "out/page-7.rgba.new")
    ∷ (page_name (codes "a/b") 12 [], codes "a/b/page-12")
    ∷ (page_name [] 100 (codes ".rgba"), codes "/page-100.rgba")
    ∷ (page_name (codes "out") 4294967295 (codes ".rgba"), codes "out/page-4294967295.rgba")
    ∷ []
