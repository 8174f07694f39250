-- What cvn does once the string's bytes are read: the item becomes their name.
-- Assumes nothing.
use Rattle.std.specs.Prelude.{false, List, ℕ, set}
use Rattle.semantics.specs.Values.{Result, ok, name}
use Rattle.semantics.specs.Machine as Floo
use Rattle.semantics.specs.Machine.{with_stack, intern}

-- Item 0 gives way to the literal name n, which takes a slot where it has none.
unfoldable pub item_named : List ℕ → Floo.Machine → Result Floo.Machine
item_named n μ = ok (with_stack (set μ.stack 0 (name false n)) (intern n μ))
