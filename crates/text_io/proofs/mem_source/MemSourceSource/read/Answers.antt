use Rattle.std.proofs.Common.{◌≡◌, ◌≤◌, length, arith, ap, ◌∙◌}
use Rattle.std.proofs.lemmas.List.{length-take-le}
use Rattle.text_io.proofs.lemmas.MemoryReadLemmas.{left_split, left_none}
use Rattle.text_io.specs.MemEnds.{SourceView}
use Rattle.text_io.proofs.mem_source.MemSourceSource.read.Goals as goal

pub returns-clause-bytes : goal.returns-clause-bytes
returns-clause-bytes c =
    let items = c.self.inside.octets.items in
    let at = c.self.inside.at in
    let stored = c.self.inside.octets.ok.0 in
    let piece = c.copy_from_slice.new.self in
    let n = c.min-n.result in
    let value = c.deref-2.ensures.value in
    let room : n ≤ length c.args.into.now = omega (arith, c.min-n.ensures) in
    let len : length piece ≡ n = c.copy_from_slice.ensures.len ∙ length-take-le n c.args.into.now room in (
      left_split items piece _ c.args.self.now.left at n (ap (λ (s : SourceView). s.left) c.self.view_is) (rw value at c.copy_from_slice.ensures.after) len,
      left_none items piece c.args.into.now at c.self.inside.most _ _ n (omega (arith, c.self.invariant.0, stored)) c.self.invariant.1 (omega (arith, c.len.ensures, stored)) c.min.ensures c.min-n.ensures len,
    )
