-- The problem that an image and what is asked pose: the tests for 7, 18 and 8, and what they say of a call's image. Assumes nothing.
use Rattle.std.proofs.Common.{ℕ, ◌+◌, ◌≤◌, true, ◌≡◌, sym, ap, ◌∙◌, List, [], length, take}
use borrow.Author.Tests.{not-false}
use Rattle.links.specs.declared.Link.{Link}
use Rattle.links.specs.Survey.{IsSurvey}
use Rattle.qubo.specs.Instance.{Instance}
use Rattle.site.specs.Layout.{meters}
use Rattle.site.specs.Image.{valid, links}
use Rattle.site.specs.Refusal.{refusal}
use Rattle.site.specs.Edits.{check_refusal}
use Rattle.site.proofs.Refused.{refusal_none}
use Rattle.site.specs.Reading.{read_meters, read_links, over}
use Rattle.site.specs.declared.Reading.{Reading}
use Rattle.site.proofs.Images.{ReadOut, read_out, to_image}
use Rattle.site.proofs.Valid.{links_survey}
use Rattle.plans.specs.declared.Ask.{Ask}
use Rattle.plans.specs.declared.Kind.{Kind}
use Rattle.plans.specs.Kinds.{kind_of, limits_hold, penalty_of, penalty_asked, instance_by, instance_of}
use Rattle.plans.specs.Refusals.{most_bits, most_margin, ask_tests, count_tests, kind_tests, site_in, image_tests}
use Rattle.plans.specs.Calls.{instance_in, accept_number_in}
use Rattle.plans.proofs.Earlier.{alone, alike_none, stops_some, none_first, ask_numbered, image_alike, image_stops}
use Rattle.plans.proofs.Refusing.{ask_limits, ask_margin, count_few}

-- no test of image and ask applies
module _ (s : List ℕ) (a : Ask) (z : refusal (image_tests s a) ≡ 0) where
  -- the image is valid
  good_image : valid s ≡ true
  unfolding image_tests
  good_image = not-false (valid s) (refusal_none 0 _ _ z).0

  good_kind : refusal (kind_tests (site_in s) a) ≡ 0
  unfolding image_tests
  good_kind = (refusal_none 0 _ _ z).1

  pub good_survey : IsSurvey (meters s) (links s)
  good_survey = links_survey s good_image

  good_ask : refusal (ask_tests (meters s) a) ≡ 0
  unfolding kind_tests
  good_ask = none_first (ask_tests (meters s) a) _ (ask_numbered (meters s) a) good_kind

  -- its kind's limits hold
  pub good_limits : limits_hold (meters s) (kind_of a) ≡ true
  good_limits = ask_limits (meters s) a good_ask

  -- the margin is not too large
  pub good_margin : a.margin ≤ most_margin
  good_margin = ask_margin (meters s) a good_ask

  -- there are at most 8,192 bits
  pub good_count : (instance_in s a).bits ≤ most_bits
  unfolding kind_tests
  good_count = count_few _ (sym (alike_none (ask_tests (meters s) a) (ask_numbered (meters s) a) good_ask _) ∙ good_kind)

-- ---- src/posing.rt: where it ends, and with which number

-- a bad image
pub image_refused : (s : List ℕ) (a : Ask) (r : ℕ) → r ≡ check_refusal s → (r ≡ 0 → ⊥) → r ≡ accept_number_in s a
unfolding accept_number_in
image_refused s a r q n = sym (sym (alone (image_tests s a)) ∙ (image_stops s a r q n).by [])

-- what reading gives
pub read_given : (s : List ℕ) (ls₀ ls : List Link) (r : Reading) → 0 ≡ check_refusal s → (r.meters ≡ read_meters s) × (r.count ≡ length (read_links s)) → ls ≡ over (read_links s) ls₀ → length ls₀ ≡ 256 → ReadOut s r.meters r.count ls
read_given s ls₀ ls r z e l h = read_out s ls₀ ls r.meters r.count (sym z) e.0 e.1 l h

-- an instance with A of its own and a margin
abbrev pub raised : ℕ → List Link → Kind → ℕ → Instance
raised m ls k margin = instance_by (penalty_of (record { meters = m; links = ls }) k + margin) (record { meters = m; links = ls }) k

-- the image is read: n links in front of an array, and m meters
module _ (s : List ℕ) (ls : List Link) (a : Ask) (m n : ℕ) (o : ReadOut s m n ls) where
  kind_decides : accept_number_in s a ≡ refusal (kind_tests (site_in s) a)
  unfolding accept_number_in
  kind_decides = sym (alone (image_tests s a)) ∙ image_alike s a o.is_valid [] ∙ alone (kind_tests (site_in s) a)

  -- what is asked is refused
  pub ask_refused : (r : ℕ) → r ≡ refusal (ask_tests m a) → (r ≡ 0 → ⊥) → r ≡ accept_number_in s a
  unfolding kind_tests
  ask_refused r h q =
      let e : refusal (ask_tests (meters s) a) ≡ r = ap (λ (k : ℕ). refusal (ask_tests k a)) (sym o.is_meters) ∙ sym h in
      sym (kind_decides ∙ (stops_some (ask_tests (meters s) a) r e q).by _)

  module _ (k : Kind) (z : refusal (ask_tests m a) ≡ 0) (named : k ≡ kind_of a) where
    -- what the problem asks for
    pub ask_taken : (limits_hold m k ≡ true) × (a.margin ≤ most_margin)
    ask_taken = (ap (limits_hold m) named ∙ ask_limits m a z, ask_margin m a z)

    -- it is that of the image and the ask
    pub posed_is : (I : Instance) → I ≡ raised m (take n ls) k a.margin → I ≡ instance_in s a
    unfolding instance_of penalty_asked
    posed_is I e = rw named at (to_image s ls m n o (λ (N : ℕ) (l : List Link). I ≡ raised N l k a.margin) e)

    count_decides : (I : Instance) → I ≡ raised m (take n ls) k a.margin → accept_number_in s a ≡ refusal (count_tests I.bits)
    unfolding kind_tests
    count_decides I e =
        let y : refusal (ask_tests (meters s) a) ≡ 0 = ap (λ (k : ℕ). refusal (ask_tests k a)) (sym o.is_meters) ∙ z in
        kind_decides ∙ alike_none (ask_tests (meters s) a) (ask_numbered (meters s) a) y _ ∙ ap (λ (J : Instance). refusal (count_tests J.bits)) (sym (posed_is I e))

    -- the number of bits tells
    pub count_told : (I : Instance) (b r : ℕ) → I ≡ raised m (take n ls) k a.margin → b ≡ I.bits → r ≡ refusal (count_tests b) → r ≡ accept_number_in s a
    count_told I b r e f h = h ∙ ap (λ (c : ℕ). refusal (count_tests c)) f ∙ sym (count_decides I e)
