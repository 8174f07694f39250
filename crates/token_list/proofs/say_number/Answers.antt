-- A number of 32 bits has at most the 10 digits that there is room for.
use Rattle.std.proofs.Common.{sym, arith, length-take-le}
use Rattle.semantics.specs.TextLaws.{decimal_length}
use Rattle.token_list.proofs.say_number.Goals as goal

pub write_decimal-end-requires : goal.write_decimal-end-requires
write_decimal-end-requires g c = omega (arith, decimal_length c.args.n)

pub slice_bounds-digits-end : goal.slice_bounds-digits-end
slice_bounds-digits-end g c = omega (arith, c.write_decimal-end.ensures.end, decimal_length c.args.n, c.write_decimal-end.auto.out)

pub slice_bounds-write_all-end : goal.slice_bounds-write_all-end
slice_bounds-write_all-end g c = sym (length-take-le _ _ (omega (arith, c.write_decimal-end.ensures.end, decimal_length c.args.n, c.write_decimal-end.auto.out)))
