-- What an item that is read means: what the definition takes there, outside braces and in a substack that is known by its offset.
-- Assumes nothing.
use Rattle.std.specs.Prelude.{◌≡◌, List, ℕ, ◌+◌, ◌<◌, ◌≤◌, length, take, drop, Result as Reply, Ok, Err, Option, Some, None}
use Rattle.semantics.specs.Sizes.{name_most, script_most}
use Rattle.semantics.specs.Values.{ok, fault}
use Rattle.forf_semantics.specs.Errors.{Result}
use Rattle.forf_semantics.specs.Items.{number, word, group, none, ◌then◌, skip, taken, take_token}
use Rattle.forf_semantics.specs.Items as items
use Rattle.forf_semantics.specs.BodyLaws.{body_at, Known}
use Rattle.forf_semantics.specs.declared.Error.TheVariants.{SyntaxError}
use Rattle.forf_token.specs.declared.SyntaxError.{SyntaxError as Bad}
use Rattle.forf_groups.specs.declared.Item.{Item}
use Rattle.forf_groups.specs.declared.Item.TheVariants.{Number, Word, Substack}

abbrev pub ended_is : Reply ℕ Bad → Result ℕ
ended_is (Ok e) = ok e
ended_is (Err e) = fault SyntaxError

-- An offset of a script that setup accepts.
pub record Readable (script : List ℕ) (start : ℕ) : Type 0 where
  pub inside : start ≤ length script
  pub short : length script ≤ script_most

-- The definition's item.
abbrev pub item_of : List ℕ → Item → items.Item
item_of script (Number w) = number w
item_of script (Word start size) = word (take size (drop start script))
item_of script (Substack body) = group (body_at script body)

-- Its bytes are in the script: a word's are few, and a substack can be read.
abbrev pub Held : List ℕ → Item → Type 0
Held script (Number w) = Unit {0}
Held script (Word start size) = (start + size ≤ length script) × (size ≤ name_most)
Held script (Substack body) = Known script body

-- The item at `start`, which ends at `next`: outside braces it is taken, and in a substack it is the first of those that are left.
pub record Takes (script : List ℕ) (start : ℕ) (i : Item) (next : ℕ) : Type 0 where
  pub takes : take_token script start ≡ taken (item_of script i) next
  pub rest : (at : ℕ) → skip script at ≡ start → Known script at → (body_at script at ≡ item_of script i then body_at script next) × Known script next
  pub held : Held script i
  pub later : start < next
  pub inside : next ≤ length script

-- There is none: outside braces that is a syntaxerror, and a substack has no items left.
pub record Nothing (script : List ℕ) (start : ℕ) : Type 0 where
  pub fails : take_token script start ≡ fault SyntaxError
  pub rest : (at : ℕ) → skip script at ≡ start → Known script at → body_at script at ≡ none

abbrev pub ReadAt : List ℕ → ℕ → Option (Item × ℕ) → Type 0
ReadAt script start (Some (i, next)) = Takes script start i next
ReadAt script start None = Nothing script start
