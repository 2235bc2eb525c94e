-- Names, each of which is the name of the node at its place (places are counted from 0).
use Rattle.std.specs.Prelude.{◌≡◌, ◌≤◌, ℕ, ◌==◌, Bool, true, ◌&&◌, ◌||◌, not, List, [], ◌∷◌, ◌++◌, length, nat_lt, nat_le, Result, Ok, Err, if◌then◌else◌}
use Rattle.std.specs.List.{list_any, position_or_len, IsDistinct, AllByRecursion}
use Rattle.std.specs.Str.{is_utf8, bytes_eq}
use Rattle.link_net.specs.Limits.{most_rows}
use Rattle.net_names.specs.declared.fault.NamesFault.{NamesFault}
use Rattle.net_names.specs.declared.fault.NamesFault.TheVariants.{BadName, TooManyNames}

-- the greatest length of a name
abbrev pub most_name_bytes : ℕ
most_name_bytes = 65536

-- the byte is a control character
abbrev pub is_control : ℕ → Bool
is_control b = nat_lt b 32 || b == 127

-- the bytes are a name: some bytes, not too many, UTF-8, and none a control character
abbrev pub is_name : List ℕ → Bool
is_name bytes = (nat_lt 0 (length bytes) && nat_le (length bytes) most_name_bytes) && (is_utf8 bytes && not (list_any is_control bytes))

-- these are the names of nodes: each is a name, no two are equal, and they are no more than a network of any size has nodes
pub record AreNames (names : List (List ℕ)) : Type 0 where
  pub each : AllByRecursion (λ name. is_name name ≡ true) names
  pub distinct : IsDistinct bytes_eq names
  pub few : length names ≤ most_rows

-- these are the names of nodes of a network of any size: no two are equal, and they are no more than it has nodes
pub record AreListed (names : List (List ℕ)) : Type 0 where
  pub distinct : IsDistinct bytes_eq names
  pub few : length names ≤ most_rows

-- the place of the name, and how many names there are where it is not among them
abbrev pub place_in : List (List ℕ) → List ℕ → ℕ
place_in names name = position_or_len (bytes_eq name) names

-- the name is among them
abbrev pub has_name : List (List ℕ) → List ℕ → Bool
has_name names name = nat_lt (place_in names name) (length names)

-- the names with this one: where it is new, it goes last
abbrev pub with_name : List (List ℕ) → List ℕ → List (List ℕ)
with_name names name = if has_name names name then names else names ++ name ∷ []

-- the number of a name, which is its place, or where it is new the next, among so many at most; or why it has none
abbrev pub number_in : ℕ → List (List ℕ) → List ℕ → Result ℕ NamesFault
number_in most names name =
    if not (is_name name) then Err BadName
    else if nat_lt (place_in names name) most then Ok (place_in names name)
    else Err TooManyNames
