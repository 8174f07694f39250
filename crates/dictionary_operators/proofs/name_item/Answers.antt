-- `name_item` meets its contract: the name's slot is found, or added where there is room, and what the primitives did to the machine is what the definition says.
-- Assumes nothing.
use Rattle.dictionary.proofs.Lookups.{find_some, find_nothing}
use Rattle.dictionary_operators.proofs.Converting.{few, found_stack, found_good, named_full, added_stack, added_good}
use native.Mathlib.Omega.{arith}
use Rattle.dictionary_operators.proofs.name_item.Goals as goal

pub put_name-requires : goal.put_name-requires
put_name-requires c = let F = find_some c.find.ensures.finds c.find.ensures.upper_bound c.in-Some.is in
    (c.requires.0, found_stack F.0 F.1 c.requires.2)

pub returns-in-Some : goal.returns-in-Some
returns-in-Some c = let F = find_some c.find.ensures.finds c.find.ensures.upper_bound c.in-Some.is in
    found_good F.0 F.1 c.put_name.ensures.puts_name c.put_name.auto.stack

pub returns-then-dict-m : goal.returns-then-dict-m
returns-then-dict-m c = named_full (find_nothing c.find.ensures.finds c.in_default.is) (omega arith) (omega arith) c.if-dict-m.true

pub overflow_cast-m : goal.overflow_cast-m
overflow_cast-m c = omega (arith, few c.requires.2, c.if-dict-m.false)

pub put_name-requires-2 : goal.put_name-requires-2
put_name-requires-2 c = (omega (arith, c.requires.0, c.add-r.ensures.names_value.1), added_stack (find_nothing c.find.ensures.finds c.in_default.is) (omega arith) (omega arith) c.add-r.ensures.adds c.requires.2)

pub returns : goal.returns
returns c = added_good (find_nothing c.find.ensures.finds c.in_default.is) (omega arith) (omega arith) c.add-r.ensures.adds c.put_name-2.ensures.puts_name c.put_name-2.auto.stack c.add-r.auto.dict
