use Rattle.std.proofs.Common.{arith, subst}
use Rattle.transcript.specs.declared.progress.Progress.{Progress}
use Rattle.transcript.proofs.lemmas.ReadingLemmas.{IsReadTo, read_goes_on, number_fits, line_refused, end_refused, text_read, rest_empty, rest_filled}
use Rattle.transcript.proofs.run.read.Goals as goal

pub returns-in-Ok-None-clause-refused : goal.returns-in-Ok-None-clause-refused
returns-in-Ok-None-clause-refused c =
    line_refused c.args.text.now c.loop-octets.rest.now c.loop-octets.number c.loop-octets.progress c.in-Some.octets.now c.in-Some.behind.now c.loop-octets.invariant c.in-Some.ensures
    (rw c.in-Ok-None.field-0-is at c.in-Ok-None.ensures)

pub overflow_add-number : goal.overflow_add-number
overflow_add-number c =
    omega (arith, number_fits c.args.text.now c.loop-octets.rest.now c.loop-octets.number c.loop-octets.progress c.in-Some.octets.now c.in-Some.behind.now c.loop-octets.invariant c.in-Some.ensures c.requires)

pub loop-octets-preserved : goal.loop-octets-preserved
loop-octets-preserved c =
    read_goes_on c.args.text.now c.loop-octets.rest.now c.loop-octets.number c.loop-octets.progress c.in-Ok-Some.after c.in-Some.octets.now c.in-Some.behind.now c.loop-octets.invariant c.in-Some.ensures
    (rw c.in-Ok-Some.field-0-is at c.in-Ok-Some.ensures)

pub returns-then-not-is_empty-clause-refused : goal.returns-then-not-is_empty-clause-refused
returns-then-not-is_empty-clause-refused c =
    end_refused c.args.text.now c.loop-octets.rest.now c.loop-octets.number c.loop-octets.progress c.loop-octets.invariant c.in_default.ensures
    (λ none entries logs is. rest_filled c.loop-octets.rest.now c.is_empty.result c.is_empty.ensures c.if-not-is_empty.true none)

pub returns-in-Some-ended-clause-read : goal.returns-in-Some-ended-clause-read
returns-in-Some-ended-clause-read c =
    text_read c.args.text.now c.loop-octets.rest.now c.loop-octets.number c.in-Some-ended.run'.entries c.in-Some-ended.run'.logs
    (subst (λ (p : Progress). IsReadTo c.args.text.now c.loop-octets.rest.now c.loop-octets.number p) c.in-Some-ended.ensures.some c.loop-octets.invariant)
    (rest_empty c.loop-octets.rest.now c.is_empty.result c.is_empty.ensures c.if-not-is_empty.false)

pub returns-in-None-clause-refused : goal.returns-in-None-clause-refused
returns-in-None-clause-refused c =
    end_refused c.args.text.now c.loop-octets.rest.now c.loop-octets.number c.loop-octets.progress c.loop-octets.invariant c.in_default.ensures
    (λ none entries logs is. c.in-None.ensures.none entries logs is)
