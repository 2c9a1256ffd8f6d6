-- What check, begin, add and remove return, and all bytes that they leave. Assumes nothing.
use Rattle.std.specs.Prelude.{ℕ, zero, suc, ◌+◌, ◌-◌, Bool, ◌&&◌, ◌||◌, cond, not, List, [], ◌∷◌, length, set, replicate, ltb, eqb}
use Rattle.links.specs.Links.{before, bad_ends, low, high, present}
use Rattle.site.specs.Layout.{SIZE, RECORDS, METERS, word, set_word, set_record, meters_at, first_at, free_at, count_at, next_at, meters, first_free, count, end_u, end_v, next}
use Rattle.site.specs.Image.{named, links, valid}
use Rattle.site.specs.Refusal.{refusal, unless_refused}

-- ---- check

-- 1: "not 2,064 bytes, or breaks a rule"
unfoldable pub check_refusal : List ℕ → ℕ
check_refusal s = refusal ((1, not (valid s)) ∷ [])

-- ---- begin: "chains records 1 to 256 as free, in that order, with no links"

-- records 1 to n each name the one after it
unfoldable pub chained : ℕ → List ℕ → List ℕ
chained zero s = s
chained (suc n) s = set_word (chained n s) (next_at (suc n)) (suc n + 1)

-- n bytes of zero
unfoldable pub zeros : ℕ → List ℕ
zeros n = replicate n 0

-- all bytes zero but N, the first free record, and next in every record but the last
unfoldable pub begin_bytes : ℕ → List ℕ
begin_bytes n = chained (RECORDS - 1) (set_word (set (zeros SIZE) meters_at n) free_at 1)

-- 1: "begin: length only"; 7: "begin: N outside 1..48"
abbrev pub begin_tests : List ℕ → ℕ → List (ℕ × Bool)
begin_tests s n = (1, not (eqb (length s) SIZE)) ∷ (7, ltb n 1 || ltb METERS n) ∷ []

-- what begin returns
unfoldable pub begin_refusal : List ℕ → ℕ → ℕ
begin_refusal s n = refusal (begin_tests s n)

-- what begin leaves
unfoldable pub begin_image : List ℕ → ℕ → List ℕ
begin_image s n = unless_refused (begin_refusal s n) (begin_bytes n) s

-- ---- the place of a link in the chain

-- where the number of the record after record p stands; 0 for p is the header
unfoldable pub slot : ℕ → ℕ
slot p = cond (eqb p 0) first_at (next_at p)

-- the record after record p in the link chain, 0 for none
unfoldable pub after : List ℕ → ℕ → ℕ
after s p = word s (slot p)

-- q names a record, whose link stands before the ends (a, b)
unfoldable pub goes_on : List ℕ → ℕ → ℕ → ℕ → Bool
goes_on s a b q = named q && before (end_u s q) (end_v s q) a b

-- the last record, from p on, of those that stand before (a, b), in at most `fuel` steps; p where none does
unfoldable pub place_from : List ℕ → ℕ → ℕ → ℕ → ℕ → ℕ
place_from s a b zero p = p
place_from s a b (suc fuel) p = cond (goes_on s a b (after s p)) (place_from s a b fuel (after s p)) p

-- the record after which the link with ends a and b stands, or is to stand; 0 for the front of the chain
unfoldable pub place : List ℕ → ℕ → ℕ → ℕ
place s a b = place_from s a b RECORDS 0

-- ---- add

-- in the order of the table: 1, 2, 3 "0", 4 "that link is there", 6 "no record is free"
abbrev pub add_tests : List ℕ → ℕ → ℕ → ℕ → List (ℕ × Bool)
add_tests s a b w =
    (1, not (valid s))
    ∷ (2, bad_ends (meters s) a b)
    ∷ (3, eqb w 0)
    ∷ (4, present (low a b) (high a b) (links s))
    ∷ (6, eqb (first_free s) 0)
    ∷ []

-- what add returns
unfoldable pub add_refusal : List ℕ → ℕ → ℕ → ℕ → ℕ
add_refusal s a b w = refusal (add_tests s a b w)

-- "Add takes the first free record and puts the link in its ordered place", here with a < b: the record leaves the free chain, is counted and written, and is named by the one before it
unfoldable pub add_bytes : List ℕ → ℕ → ℕ → ℕ → List ℕ
add_bytes s a b w =
    set_word
    (set_record
    (set_word (set_word s free_at (next s (first_free s))) count_at (count s + 1))
    (first_free s) a b w (after s (place s a b)))
    (slot (place s a b)) (first_free s)

-- what add leaves: "The ends may be given either way round"
unfoldable pub add_image : List ℕ → ℕ → ℕ → ℕ → List ℕ
add_image s a b w = unless_refused (add_refusal s a b w) (add_bytes s (low a b) (high a b) w) s

-- ---- remove

-- in the order of the table: 1, 2, 5 "no such link"
abbrev pub remove_tests : List ℕ → ℕ → ℕ → List (ℕ × Bool)
remove_tests s a b = (1, not (valid s)) ∷ (2, bad_ends (meters s) a b) ∷ (5, not (present (low a b) (high a b) (links s))) ∷ []

-- what remove returns
unfoldable pub remove_refusal : List ℕ → ℕ → ℕ → ℕ
remove_refusal s a b = refusal (remove_tests s a b)

-- "Remove makes the record the first free one": it is cleared, and the one before it names the one after it
unfoldable pub remove_bytes : List ℕ → ℕ → ℕ → List ℕ
remove_bytes s a b =
    set_word
    (set_record
    (set_word (set_word s free_at (after s (place s a b))) count_at (count s - 1))
    (after s (place s a b)) 0 0 0 (first_free s))
    (slot (place s a b)) (next s (after s (place s a b)))

-- what remove leaves
unfoldable pub remove_image : List ℕ → ℕ → ℕ → List ℕ
remove_image s a b = unless_refused (remove_refusal s a b) (remove_bytes s (low a b) (high a b)) s
