-- What may take an object's place.
-- Assumes nothing.
use Rattle.std.specs.Prelude.{◌≡◌, Bool, true, false}
use Rattle.semantics.specs.Values.{Object, elements, text}
use Rattle.semantics.specs.ObjectOperators.{size}

abbrev pub is_string : Object → Bool
is_string (elements vs) = false
is_string (text bs) = true

-- One of the same kind, with as many elements or the same maximum.
pub record Alike (before after : Object) : Type 0 where
  pub kind : is_string after ≡ is_string before
  pub extent : size after ≡ size before
