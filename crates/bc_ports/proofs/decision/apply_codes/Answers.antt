use Rattle.std.proofs.Common.{◌≡◌, ◌∙◌, suc, List, drop, get_or, ap, sym, add-one, Option}
use Rattle.std.specs.Prelude.{fold}
use Rattle.std.specs.Option.{option_copied}
use Rattle.ptp_base.specs.declared.announcement.Announcement.{Announcement}
use Rattle.ptp_base.specs.declared.code.Code.{Code}
use Rattle.ptp_base.specs.declared.code.Code.TheVariants.{Stay}
use Rattle.ptp_profile.specs.Best.MasterData.{Master, after_code}
use Rattle.data_sets.specs.DataSetsView.{master_in, announced_by}
use Rattle.bc_history.specs.Phases.OpeningState.{local_announcement}
use Rattle.bc_ports.proofs.lemmas.ListLemmas.{drop-next, drop-end}
use Rattle.bc_ports.proofs.lemmas.DecisionLemmas.{applied-clock, applied-others, announced-own}
use Rattle.bc_ports.proofs.decision.apply_codes.Goals as goal

pub loop-code-preserved : goal.loop-code-preserved
loop-code-preserved c = record {
  master = λ o clock.
      let step : Master → Code → Master = after_code (local_announcement o) c.args.best.now in
      let now : Master = master_in c.loop-code.sets in
      let codes : List Code = c.args.codes.now in
      let own : announced_by c.loop-code.sets ≡ local_announcement o = announced-own o c.loop-code.sets (c.loop-code.invariant.clock o clock) in
      let code : Code = get_or codes c.loop-code.code-index Stay in
      let took : master_in c.apply.new.self ≡ step now code =
      c.apply.ensures.master ∙ (ap (λ (x : Announcement). after_code x (option_copied c.as_ref.result) now code) own ∙ ap (λ (b : Option Announcement). after_code (local_announcement o) b now code) c.as_ref.ensures.value) in
      rw add-one (ap (λ (m : Master). fold step m (drop (suc c.loop-code.code-index) codes)) took
      ∙ (ap (λ (xs : List Code). fold step now xs) (sym (drop-next codes c.loop-code.code-index Stay c.loop-code-test.true)) ∙ c.loop-code.invariant.master o clock));
  clock = λ o clock. applied-clock o c.loop-code.sets c.apply.new.self c.apply.ensures.rest (c.loop-code.invariant.clock o clock);
  others = applied-others c.args.sets.now c.loop-code.sets c.apply.new.self c.apply.ensures.rest c.loop-code.invariant.others;
}

pub returns-clause-master : goal.returns-clause-master
returns-clause-master c = λ o clock.
    ap (λ (xs : List Code). fold (after_code (local_announcement o) c.args.best.now) (master_in c.loop-code.sets) xs) (sym (drop-end c.args.codes.now c.loop-code.code-index c.loop-code-test.false)) ∙ c.loop-code.invariant.master o clock

pub returns-clause-clock : goal.returns-clause-clock
returns-clause-clock c = λ o clock. c.loop-code.invariant.clock o clock

pub returns-clause-others : goal.returns-clause-others
returns-clause-others c = c.loop-code.invariant.others
