-- JSON whose text cannot end an element of HTML.
use Rattle.std.specs.Prelude.{◌≡◌, ◌==◌, ℕ, List, Bool, true, false, not}
use Rattle.std.specs.List.{list_all}
use Rattle.serde_json.specs.Data.{Data, null, boolean, number, string, array, object, Items, no_items, item, Members, no_members, member}
use Rattle.serde_json.specs.Find.{is_float}

-- each byte is another than `<`
abbrev pub is_closed : List ℕ → Bool
is_closed text = list_all (λ b. not (b == 60)) text

-- no key and no text has a `<`, and no number is a float
abbrev mutual
  pub IsClosed : Data → Type 0
  IsClosed null = Unit {0}
  IsClosed (boolean b) = Unit {0}
  IsClosed (number n) = is_float n ≡ false
  IsClosed (string s) = is_closed s ≡ true
  IsClosed (array ds) = ItemsAreClosed ds
  IsClosed (object ms) = MembersAreClosed ms

  pub ItemsAreClosed : Items → Type 0
  ItemsAreClosed no_items = Unit {0}
  ItemsAreClosed (item d ds) = IsClosed d × ItemsAreClosed ds

  pub MembersAreClosed : Members → Type 0
  MembersAreClosed no_members = Unit {0}
  MembersAreClosed (member k d ms) = (is_closed k ≡ true) × IsClosed d × MembersAreClosed ms
