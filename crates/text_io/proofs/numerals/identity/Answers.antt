use Rattle.std.proofs.Common.{◌<◌, arith}
use Rattle.text_io.proofs.lemmas.NumeralLemmas.{hex_below}
use Rattle.text_io.proofs.numerals.identity.Goals as goal

pub overflow_add-result : goal.overflow_add-result
overflow_add-result c =
    let a : c.in_ok-a.a < 16777216 = hex_below _ 6 _ c.in_ok-a.ensures.bound c.in_ok-a.ensures.short in
    let b : c.in_ok-b.b < 65536 = hex_below _ 4 _ c.in_ok-b.ensures.bound c.in_ok-b.ensures.short in
    omega (arith, a, b)

pub overflow_add-result-2 : goal.overflow_add-result-2
overflow_add-result-2 c =
    let a : c.in_ok-a.a < 16777216 = hex_below _ 6 _ c.in_ok-a.ensures.bound c.in_ok-a.ensures.short in
    let b : c.in_ok-b.b < 65536 = hex_below _ 4 _ c.in_ok-b.ensures.bound c.in_ok-b.ensures.short in
    let d : c.in_ok-c.c < 16777216 = hex_below _ 6 _ c.in_ok-c.ensures.bound c.in_ok-c.ensures.short in
    omega (arith, a, b, d)

pub overflow_cast-result : goal.overflow_cast-result
overflow_cast-result c =
    let a : c.in_ok-a.a < 16777216 = hex_below _ 6 _ c.in_ok-a.ensures.bound c.in_ok-a.ensures.short in
    let b : c.in_ok-b.b < 65536 = hex_below _ 4 _ c.in_ok-b.ensures.bound c.in_ok-b.ensures.short in
    let d : c.in_ok-c.c < 16777216 = hex_below _ 6 _ c.in_ok-c.ensures.bound c.in_ok-c.ensures.short in
    omega (arith, a, b, d)
