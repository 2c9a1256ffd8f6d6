use Rattle.std.proofs.Common.{◌≡◌, ◌∙◌, ap, arith, rules}
use Rattle.site.specs.Edits.{zeros}
use Rattle.site.proofs.Calls.{begin_steps}
use Rattle.site.proofs.Sets.{begin}
use Rattle.site.proofs.begin.Goals as goal

pub returns-clause-image_after : goal.returns-clause-image_after
unfolding zeros
returns-clause-image_after c =
    let z : c.fill.new.self ≡ zeros 2064 = c.fill.ensures.after (λ y k. search rules) ∙ ap zeros c.if-image-ne-IMAGE_LEN.false in
    begin_steps _ _ _ _ z c.put_word.ensures c.chain_records.ensures ∙ grind (arith, begin)
