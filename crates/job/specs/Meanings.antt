-- What a trouble says to a person.
-- Assumes nothing.
use Rattle.std.specs.Prelude.{ℕ, List, codes}
use Rattle.job.specs.declared.lines.Trouble.{Trouble}
use Rattle.job.specs.declared.lines.Trouble.TheVariants.{UnknownWord, BadConfig, BadBackground, BadImage, NoConfig, SecondConfig, LateBackground, TooManyImages}

abbrev pub meaning : Trouble → List ℕ
meaning UnknownWord = codes "a line begins with config, background or image"
meaning BadConfig = codes "a config line has 7 numbers (maxw maxh padding border extrusion pages images) and 4 switches, on or off (rotation trim outlines forced)"
meaning BadBackground = codes "a background line has none; or r g b a to 255, a threshold to 255 or none, and discard on or off"
meaning BadImage = codes "an image line has key, symbols or wording, offset, width, height"
meaning NoConfig = codes "the first line with words has to be a config line"
meaning SecondConfig = codes "there is a config line already"
meaning LateBackground = codes "a background line comes once, before the images"
meaning TooManyImages = codes "a job has at most 256 images"
