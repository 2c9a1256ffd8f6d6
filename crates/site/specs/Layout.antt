-- The site image, field by field: document 01's "2,064 bytes; two-byte fields are little-endian". No other file says where a field stands.
-- Assumes nothing.
use Rattle.std.specs.Prelude.{ℕ, ◌+◌, ◌*◌, ◌/◌, ◌%◌, List, ◌∷◌, get_or, set}
use Rattle.lists.specs.Tests.{from}

-- ---- sizes

-- "2,064 bytes"
abbrev pub SIZE : ℕ
SIZE = 2064

-- "records 1 to 256"
abbrev pub RECORDS : ℕ
RECORDS = 256

-- "N is 1 to 48"
abbrev pub METERS : ℕ
METERS = 48

-- ---- fields of one or two bytes

-- byte i
unfoldable pub byte : List ℕ → ℕ → ℕ
byte s i = get_or s i 0

-- "two-byte fields are little-endian"
unfoldable pub word : List ℕ → ℕ → ℕ
word s i = byte s i + 256 * byte s (i + 1)

-- the two-byte field at byte i set to x
unfoldable pub set_word : List ℕ → ℕ → ℕ → List ℕ
set_word s i x = set (set s i (x % 256)) (i + 1) (x / 256)

-- ---- the header: "byte 0 is N, the number of meters; byte 1 is zero; bytes 2-3 the first link; 4-5 the first free record; 6-7 the link count; 8-15 zero"

-- "byte 0 is N"
abbrev pub meters_at : ℕ
meters_at = 0

-- "bytes 2-3 the first link"
abbrev pub first_at : ℕ
first_at = 2

-- "4-5 the first free record"
abbrev pub free_at : ℕ
free_at = 4

-- "6-7 the link count"
abbrev pub count_at : ℕ
count_at = 6

-- "byte 1 is zero", "8-15 zero": byte 1 and the eight from byte 8 on
abbrev pub zero_bytes : List ℕ
zero_bytes = 1 ∷ from 8 8

-- N
unfoldable pub meters : List ℕ → ℕ
meters s = byte s meters_at

-- the record of the first link
unfoldable pub first : List ℕ → ℕ
first s = word s first_at

-- the first free record
unfoldable pub first_free : List ℕ → ℕ
first_free s = word s free_at

-- the link count
unfoldable pub count : List ℕ → ℕ
count s = word s count_at

-- ---- record k: "records 1 to 256, eight bytes each: end u, end v, weight (2 bytes), next (2 bytes), two zero bytes"

-- "eight bytes each", behind the 16 of the header: the byte at which record k begins
abbrev pub record_at : ℕ → ℕ
record_at k = 8 * k + 8

-- behind the two ends, the weight
abbrev pub weight_at : ℕ → ℕ
weight_at k = record_at k + 2

-- behind the weight, next
abbrev pub next_at : ℕ → ℕ
next_at k = record_at k + 4

-- behind next, "two zero bytes"
abbrev pub pad_at : ℕ → ℕ
pad_at k = record_at k + 6

-- "end u"
unfoldable pub end_u : List ℕ → ℕ → ℕ
end_u s k = byte s (record_at k)

-- "end v"
unfoldable pub end_v : List ℕ → ℕ → ℕ
end_v s k = byte s (record_at k + 1)

-- "weight (2 bytes)"
unfoldable pub weight : List ℕ → ℕ → ℕ
weight s k = word s (weight_at k)

-- "next (2 bytes)"
unfoldable pub next : List ℕ → ℕ → ℕ
next s k = word s (next_at k)

-- the number that the two zero bytes make
unfoldable pub pad : List ℕ → ℕ → ℕ
pad s k = word s (pad_at k)

-- record k set to the ends a and b, the weight w and the next record x, its two zero bytes as they are
unfoldable pub set_record : List ℕ → ℕ → ℕ → ℕ → ℕ → ℕ → List ℕ
set_record s k a b w x = set_word (set_word (set (set s (record_at k) a) (record_at k + 1) b) (weight_at k) w) (next_at k) x
