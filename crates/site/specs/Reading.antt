-- What is read out of an image for the kinds: N, and the links in an array. Assumes nothing.
use Rattle.std.specs.Prelude.{ℕ, suc, cond, List, [], ◌∷◌, set}
use Rattle.links.specs.declared.Link.{Link}
use Rattle.site.specs.Layout.{meters}
use Rattle.site.specs.Image.{links, valid}

-- the number of meters, 0 where the image is refused
unfoldable pub read_meters : List ℕ → ℕ
read_meters s = cond (valid s) (meters s) 0

-- the links, none where the image is refused
unfoldable pub read_links : List ℕ → List Link
read_links s = cond (valid s) (links s) []

-- the entries xs stored at the places i, i + 1, .. of an array
unfoldable pub store_from : {A : Type 0} → ℕ → List A → List A → List A
store_from i [] array = array
store_from i (x ∷ xs) array = store_from (suc i) xs (set array i x)

-- the entries xs in the front places of a lent array, and the rest of it as it was
unfoldable pub over : {A : Type 0} → List A → List A → List A
over xs array = store_from 0 xs array
