-- Document 01's table of refusals for tables, energies, coding and decoding, with 02's additions: lists of numbers, each with the test whether it applies, in the order of trial (`place`, Best.antt). Those of begin, add and remove, and `refusal`, which picks the first that applies, are in crate `site`. Assumes nothing.
use Rattle.std.specs.Prelude.{ℕ, ◌-◌, Bool, ◌&&◌, ◌||◌, not, List, [], ◌∷◌, ◌++◌, length, eqb, leb, ltb}
use Rattle.lists.specs.Tests.{all}
use Rattle.qubo.specs.Instance.{Instance}
use Rattle.site.specs.Layout.{meters}
use Rattle.site.specs.Image.{valid, links}
use Rattle.plans.specs.declared.Ask.{Ask}
use Rattle.plans.specs.Kinds.{Site, kind_of, limits_hold, instance_of}

-- "8,192 bits"
abbrev pub most_bits : ℕ
most_bits = 8192

-- "kind not 1..3, its parameter outside its limits, or kind 3 with N = 1"
unfoldable pub bad_kind : ℕ → Ask → Bool
bad_kind N a = not (leb 1 a.kind && leb a.kind 3) || not (limits_hold N (kind_of a))

-- 18 is "margin too large": "a margin from 0 to 1,000,000" (02, S-7)
abbrev pub most_margin : ℕ
most_margin = 1000000

-- every byte is a bit; 11 is "a lent bit is neither 0 nor 1"
unfoldable pub are_bits : List ℕ → Bool
are_bits x = all (λ b. leb b 1) x

-- what concerns what is asked of a site of N meters, before its bits are counted: 7, and what comes after it, 18
unfoldable pub ask_tests : ℕ → Ask → List (ℕ × Bool)
ask_tests N a = (7, bad_kind N a) ∷ (18, ltb most_margin a.margin) ∷ []

-- what concerns their number: 8 "more than 8,192 bits"
unfoldable pub count_tests : ℕ → List (ℕ × Bool)
count_tests bits = (8, ltb most_bits bits) ∷ []

-- what concerns a site and what is asked of it, in that order
unfoldable pub kind_tests : Site → Ask → List (ℕ × Bool)
kind_tests s a = ask_tests s.meters a ++ count_tests (instance_of s a).bits

-- ---- what concerns a row, an assignment or a plan, once image and kind are accepted

-- a row, where `bits` is the bit count: 10 "row number at or above the bit count", which precedes 9 "row slice shorter than the row"
unfoldable pub row_tests : ℕ → ℕ → ℕ → List (ℕ × Bool)
row_tests bits i room = (10, leb bits i) ∷ (9, ltb room (bits - i)) ∷ []

-- the energy of the bits x, likewise: 9 "bits .. of another length than needed", 11
unfoldable pub energy_tests : ℕ → List ℕ → List (ℕ × Bool)
energy_tests bits x = (9, not (eqb (length x) bits)) ∷ (11, not (are_bits x)) ∷ []

-- coding q into the bits x: 9 "bits or plan of another length than needed", 12 "bytes to code are no plan"
unfoldable pub code_tests : Instance → List ℕ → List ℕ → List (ℕ × Bool)
code_tests I q x = (9, not (eqb (length q) I.plan_bytes && eqb (length x) I.bits)) ∷ (12, not (I.is_plan q)) ∷ []

-- decoding the bits x into q: 9, 11, 12 "group or tree bits code none"
unfoldable pub decode_tests : Instance → List ℕ → List ℕ → List (ℕ × Bool)
decode_tests I x q = (9, not (eqb (length x) I.bits && eqb (length q) I.plan_bytes)) ∷ (11, not (are_bits x)) ∷ (12, not (I.decodes x)) ∷ []

-- ---- of an image: 1 comes first

-- the site of an image
abbrev pub site_in : List ℕ → Site
site_in s = record { meters = meters s; links = links s }

-- "An image and a kind with its parameter are accepted when no number that concerns them, here 1, 7 or 8, applies", and with 02 also 18
unfoldable pub image_tests : List ℕ → Ask → List (ℕ × Bool)
image_tests s a = (1, not (valid s)) ∷ kind_tests (site_in s) a
