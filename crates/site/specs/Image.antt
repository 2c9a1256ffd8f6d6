-- Chains, links and the rules of a site image. Assumes nothing.
use Rattle.std.specs.Prelude.{ℕ, zero, suc, ◌+◌, Bool, ◌&&◌, cond, List, [], ◌∷◌, ◌++◌, map, length, leb, eqb}
use Rattle.lists.specs.Tests.{every, all, from}
use Rattle.links.specs.Links.{link_ok, ascending}
use Rattle.links.specs.declared.Link.{Link}
use Rattle.site.specs.Layout.{SIZE, RECORDS, METERS, zero_bytes, byte, meters, first, first_free, count, end_u, end_v, weight, next, pad}

-- ---- chains: "Next and the two firsts name a record; zero ends a chain or marks it empty"

-- the records met from record k on, at most `fuel` of them
unfoldable pub chain : List ℕ → ℕ → ℕ → List ℕ
chain s zero k = []
chain s (suc fuel) zero = []
chain s (suc fuel) (suc k) = suc k ∷ chain s fuel (next s (suc k))

-- a step more than there are records: a chain that loops has a record twice
unfoldable pub link_chain : List ℕ → List ℕ
link_chain s = chain s (suc RECORDS) (first s)

-- the free records, as far
unfoldable pub free_chain : List ℕ → List ℕ
free_chain s = chain s (suc RECORDS) (first_free s)

-- ---- links

-- the link of record k
unfoldable pub link_at : List ℕ → ℕ → Link
link_at s k = record { u = end_u s k; v = end_v s k; weight = weight s k }

-- the links of an image, in the order of the chain
unfoldable pub links : List ℕ → List Link
links s = map (link_at s) (link_chain s)

-- ---- the rules

-- byte i is zero
unfoldable pub zero_at : List ℕ → ℕ → Bool
zero_at s i = eqb (byte s i) 0

-- "two zero bytes" of record k are zero
unfoldable pub pad_zero : List ℕ → ℕ → Bool
pad_zero s k = eqb (pad s k) 0

-- "each zero but for next"
unfoldable pub free_ok : List ℕ → ℕ → Bool
free_ok s k = every (eqb (end_u s k) 0 ∷ eqb (end_v s k) 0 ∷ eqb (weight s k) 0 ∷ pad_zero s k ∷ [])

-- k names a record
unfoldable pub named : ℕ → Bool
named k = leb 1 k && leb k RECORDS

-- how often k stands in a list
unfoldable pub times : ℕ → List ℕ → ℕ
times k [] = 0
times k (x ∷ xs) = cond (eqb x k) 1 0 + times k xs

-- record k is in just one of the two chains, once
unfoldable pub once_in : List ℕ → ℕ → Bool
once_in s k = eqb (times k (link_chain s ++ free_chain s)) 1

-- the rules, in the order of the paper
unfoldable pub rules : List ℕ → List Bool
rules s =
    -- "2,064 bytes"
    eqb (length s) SIZE
    -- "Next and the two firsts name a record", where they are not zero
    ∷ all named (link_chain s ++ free_chain s)
    -- "every byte called zero above is zero": byte 1, bytes 8-15, the last two of each record
    ∷ all (zero_at s) zero_bytes
    ∷ all (pad_zero s) (from 1 RECORDS)
    -- "N is 1 to 48"
    ∷ (leb 1 (meters s) && leb (meters s) METERS)
    -- "Every link has 1 ≤ u < v ≤ N and weight 1 to 65,535"
    ∷ all (link_ok (meters s)) (links s)
    -- "The link chain rises strictly by u, then by v, and has as many records as the count says"
    ∷ ascending (links s)
    ∷ eqb (length (link_chain s)) (count s)
    -- "The free chain has exactly the other records, each zero but for next"
    ∷ all (once_in s) (from 1 RECORDS)
    ∷ all (free_ok s) (free_chain s)
    ∷ []

-- a site image: every rule holds
unfoldable pub valid : List ℕ → Bool
valid s = every (rules s)
