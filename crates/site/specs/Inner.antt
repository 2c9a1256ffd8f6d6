-- Only contracts between functions cite this: a reader of the public promises may skip it. What the loops of src/ compute: the rules as two walks with a step count, what the walk of the links stores and remembers, and the look at one record that tells whether a link is there; proofs/Valid.antt and proofs/Placed.antt
-- show that they decide what Image.antt and Edits.antt say. Assumes nothing.
use Rattle.std.specs.Prelude.{ℕ, zero, suc, ◌+◌, ◌-◌, ◌*◌, Bool, ◌&&◌, cond, not, List, [], ◌∷◌, length, leb, eqb}
use Rattle.lists.specs.Tests.{all}
use Rattle.links.specs.declared.Link.{Link}
use Rattle.links.specs.Links.{link_ok, before, has_ends, bad_ends}
use Rattle.site.specs.Layout.{SIZE, RECORDS, METERS, zero_bytes, meters, first, first_free, count, end_u, end_v, next}
use Rattle.site.specs.Image.{link_at, zero_at, pad_zero, free_ok, named, valid}
use Rattle.site.specs.Refusal.{refusal}

-- the ends u and v, each below 256, as one number
abbrev pub key : ℕ → ℕ → ℕ
key u v = 256 * u + v

-- record k holds a link of a site of n meters, after the ends (a, b), and its zero bytes are zero
unfoldable pub link_fits : List ℕ → ℕ → ℕ → ℕ → ℕ → Bool
link_fits s n a b k = link_ok n (link_at s k) && (pad_zero s k && before a b (end_u s k) (end_v s k))

-- c links from record k on and then the end, in rising order from (a, b)
unfoldable pub walk_links : List ℕ → ℕ → ℕ → ℕ → ℕ → ℕ → Bool
walk_links s n zero k a b = eqb k 0
walk_links s n (suc c) k a b = named k && (link_fits s n a b k && walk_links s n c (next s k) (end_u s k) (end_v s k))

-- the links of the c records from record k on
unfoldable pub links_on : List ℕ → ℕ → ℕ → List Link
links_on s zero k = []
links_on s (suc c) k = link_at s k ∷ links_on s c (next s k)

-- the last of the c records from record k on that stands before the ends (a, b), p where none does
unfoldable pub last_before : List ℕ → ℕ → ℕ → ℕ → ℕ → ℕ → ℕ
last_before s a b zero k p = p
last_before s a b (suc c) k p = last_before s a b c (next s k) (cond (before (end_u s k) (end_v s k) a b) k p)

-- c free records from record k on and then the end
unfoldable pub walk_free : List ℕ → ℕ → ℕ → Bool
walk_free s zero k = eqb k 0
walk_free s (suc c) k = named k && (free_ok s k && walk_free s c (next s k))

-- the header's zero bytes, and N
unfoldable pub head_ok : List ℕ → Bool
head_ok s = all (zero_at s) zero_bytes && (leb 1 (meters s) && leb (meters s) METERS)

-- the length, the header, the count, and the two walks
unfoldable pub checks : List ℕ → Bool
checks s =
    eqb (length s) SIZE
    && (head_ok s
    && (leb (count s) RECORDS
    && (walk_links s (meters s) (count s) (first s) 0 0
    && walk_free s (RECORDS - count s) (first_free s))))

-- what add and remove refuse alike: 1 and 2
unfoldable pub find_refusal : List ℕ → ℕ → ℕ → ℕ
find_refusal s a b = refusal ((1, not (valid s)) ∷ (2, bad_ends (meters s) a b) ∷ [])

-- record q is there and holds the link with ends a and b
unfoldable pub is_link : List ℕ → ℕ → ℕ → ℕ → Bool
is_link s a b q = named q && has_ends a b (link_at s q)
