use Rattle.std.proofs.Common.{◌+◌, ◌<◌, ℕ, List, length, drop, sym, ◌∙◌}
use Rattle.std.specs.Option.{is_some}
use Rattle.std.specs.List.{fold}
use Rattle.std.proofs.lemmas.List.{at_drop_more}
use Rattle.std.proofs.lemmas.List.Elements.{All-get_or}
use Rattle.ptp_base.specs.Least.{lesser}
use Rattle.ptp_base.specs.declared.limits.TheConstants.{STEPS_END}
use Rattle.ptp_profile.specs.Best.ForeignMasters.{better}
use Rattle.foreign_master.specs.declared.foreign_master.ForeignMaster.{ForeignMaster}
use Rattle.foreign_master.specs.ForeignMasterTable.{qualified_of, said_by, befores_of}
use Rattle.foreign_master.proofs.lemmas.PassLemmas.{one_if, winner_more, oldest_more, counted_more, near_more, pass_counted}
use Rattle.foreign_master.proofs.pass.pass_over.Goals as goal

pub loop-master-preserved : goal.loop-master-preserved
loop-master-preserved g c =
    let w = c.args.window in
    let m = c.args.at in
    let xs = c.args.masters.now in
    let i = c.loop-master.master-index in
    let old = c.loop-master.pass in
    let l = c.loop-master-test.true in
    let rest = drop (i + 1) xs in
    record {
      winner = winner_more w m _ rest old.winner _ c.pass_with-pass.ensures.winner
          ∙ sym (at_drop_more (λ (left : List ForeignMaster). fold better old.winner (said_by w m left)) xs i _ l) ∙ c.loop-master.invariant.winner;
      oldest = oldest_more w m _ rest old.oldest _ c.pass_with-pass.ensures.oldest
          ∙ sym (at_drop_more (λ (left : List ForeignMaster). fold (lesser (λ (at : ℕ). at)) old.oldest (befores_of w m left)) xs i _ l) ∙ c.loop-master.invariant.oldest;
      counted = counted_more w m _ rest old.winner _ c.loop-master.steps _ _ c.pass_with-pass.ensures.winner c.pass_with-pass.ensures.counted
          (sym (at_drop_more (λ (left : List ForeignMaster). c.loop-master.steps + one_if (is_some old.winner) + length (qualified_of w m left)) xs i _ l) ∙ c.loop-master.invariant.counted);
      near = near_more w m _ old.winner _ c.pass_with-pass.ensures.winner c.loop-master.invariant.near
          (All-get_or (λ (p : ForeignMaster). p.said.steps < STEPS_END) xs i _ l c.requires);
    }

pub returns-clause-counted : goal.returns-clause-counted
returns-clause-counted g c =
    pass_counted c.args.window c.args.at c.args.masters.now c.loop-master.master-index c.loop-master.pass.winner _ _ c.loop-master-test.false c.loop-master.invariant.winner c.loop-master.invariant.counted
