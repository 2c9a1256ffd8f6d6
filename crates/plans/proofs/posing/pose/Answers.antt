use Rattle.std.proofs.Common.{sym, arith}
use Rattle.site.proofs.Calls.{number_above}
use Rattle.site.proofs.Images.{ReadOut}
use Rattle.plans.proofs.Calling.{exit_is}
use Rattle.plans.proofs.Posed.{read_given, image_refused, ask_refused, ask_taken, posed_is, count_told}
use Rattle.plans.proofs.posing.pose.Goals as goal
use Rattle.plans.proofs.posing.pose.Goals.{In_ok-reading}

pub returns-in_err-reading : goal.returns-in_err-reading
returns-in_err-reading c = rw (exit_is _ c.from_residual.ensures.1) (image_refused c.args.image.now c.args.ask _ c.in_err-reading.ensures.refusal_value (number_above _))

-- what reading gives, wherever it is needed
survey_read : (c : In_ok-reading) → ReadOut c.args.image.now c.in_ok-reading.reading.meters c.in_ok-reading.reading.count c.read.new.links
survey_read c = read_given c.args.image.now c.args.links.now c.read.new.links c.in_ok-reading.reading c.in_ok-reading.ensures.refusal_value c.in_ok-reading.ensures.reading c.in_ok-reading.ensures.links_after (omega arith)

pub returns-in_err-kind : goal.returns-in_err-kind
returns-in_err-kind c = rw (exit_is _ c.from_residual-in_err-kind.ensures.1) (ask_refused _ _ c.args.ask _ _ (survey_read (goal.at.returns-in_err-kind c).In_ok-reading) _ c.in_err-kind.ensures (number_above _))

pub shared_ref_as_front-survey : goal.shared_ref_as_front-survey
shared_ref_as_front-survey c = omega (arith, (survey_read (goal.at.shared_ref_as_front-survey c).In_ok-reading).room, c.read.auto.links)

pub invariant_of-survey : goal.invariant_of-survey
invariant_of-survey c =
    let v = (survey_read (goal.at.invariant_of-survey c).In_ok-reading).survey in
    record { meters_low = v.meters_low; meters_high = v.meters_high; few = v.few; each = v.each; rises = v.rises }

pub new-posed-requires : goal.new-posed-requires
new-posed-requires c = ask_taken _ _ c.args.ask _ _ (survey_read (goal.at.new-posed-requires c).In_ok-reading) _ c.in_ok-kind.ensures.0 c.in_ok-kind.ensures.1

pub returns-in_err-of_count : goal.returns-in_err-of_count
returns-in_err-of_count c = rw (exit_is _ c.from_residual-in_err-of_count.ensures.1) (count_told _ _ c.args.ask _ _ (survey_read (goal.at.returns-in_err-of_count c).In_ok-reading) _ c.in_ok-kind.ensures.0 c.in_ok-kind.ensures.1 _ _ _ c.new-posed.ensures c.bits.ensures c.in_err-of_count.ensures)

pub returns : goal.returns
returns c =
    let o = survey_read (goal.at.returns c).In_ok-reading in
    (sym (count_told _ _ c.args.ask _ _ o _ c.in_ok-kind.ensures.0 c.in_ok-kind.ensures.1 _ _ _ c.new-posed.ensures c.bits.ensures c.in_ok-of_count.ensures), posed_is _ _ c.args.ask _ _ o _ c.in_ok-kind.ensures.0 c.in_ok-kind.ensures.1 _ c.new-posed.ensures)
