use Rattle.std.proofs.Common.{ℕ, List, [], ◌∷◌, ◌++◌, ap, ◌∙◌}
use Rattle.transcript.proofs.lemmas.SplitLemmas.{split_goes_on, split_ends}
use Rattle.transcript.proofs.split.lines_in.Goals as goal

pub loop-line-preserved : goal.loop-line-preserved
loop-line-preserved c =
    split_goes_on c.args.text.now c.loop-line.found c.push.new.self c.loop-line.rest.now c.in-Some.line.now c.in-Some.behind.now c.loop-line.invariant c.in-Some.ensures
    (c.in_ok-push.ensures.ok ∙ ap (λ (line : List ℕ). c.loop-line.found ++ line ∷ []) (c.from_vec.ensures ∙ c.in_ok-from_slice.ensures.items))

pub returns : goal.returns
returns c = split_ends c.args.text.now c.loop-line.found c.loop-line.rest.now c.loop-line.invariant c.in_default.ensures
