-- A file has one header.
use Rattle.std.proofs.Common.{◌≡◌, ◌∙◌, ℕ, ◌<◌, ◌^◌, List, [], ◌∷◌, ◌++◌, length, get_or, take, zero, suc, refl, sym, ap, subst, arith}
use Rattle.std.specs.Int.{to_le_bytes, from_le_bytes, w16, w32}
use Rattle.std.proofs.lemmas.List.{append_cancel_left}
use Rattle.std.proofs.lemmas.Nat.{from_le_bytes-to_le_bytes_2, from_le_bytes-to_le_bytes_4}
use Rattle.rule_lang.proofs.Bytes.{same_cut}
use Rattle.report_files.specs.declared.npy.front.Version.{Version}
use Rattle.report_files.specs.declared.npy.front.Version.TheVariants.{One, Two}
use Rattle.report_files.specs.npy.Files.{magic, version_bytes, length_bytes, length_bound, IsFile, HasVersion}

-- bytes are the spelling of one number at most
short_once : (m n : ℕ) (x y : List ℕ) → m < 2 ^ 16 → n < 2 ^ 16 → to_le_bytes w16 m ++ x ≡ to_le_bytes w16 n ++ y → (m ≡ n) × (x ≡ y)
short_once m n x y small tiny same =
    let cut = same_cut (to_le_bytes w16 m) x (to_le_bytes w16 n) y same refl in
    (sym (from_le_bytes-to_le_bytes_2 m small) ∙ ap (from_le_bytes w16) cut.0 ∙ from_le_bytes-to_le_bytes_2 n tiny, cut.1)

word_once : (m n : ℕ) (x y : List ℕ) → m < 2 ^ 32 → n < 2 ^ 32 → to_le_bytes w32 m ++ x ≡ to_le_bytes w32 n ++ y → (m ≡ n) × (x ≡ y)
word_once m n x y small tiny same =
    let cut = same_cut (to_le_bytes w32 m) x (to_le_bytes w32 n) y same refl in
    (sym (from_le_bytes-to_le_bytes_4 m small) ∙ ap (from_le_bytes w32) cut.0 ∙ from_le_bytes-to_le_bytes_4 n tiny, cut.1)

pub length_once : (v : Version) (m n : ℕ) (x y : List ℕ) → m < length_bound v → n < length_bound v → length_bytes v m ++ x ≡ length_bytes v n ++ y → (m ≡ n) × (x ≡ y)
length_once One m n x y small tiny same = short_once m n x y small tiny same
length_once Two m n x y small tiny same = word_once m n x y small tiny same

-- bytes begin with one version at most
pub version_once : (v w : Version) (x y : List ℕ) → version_bytes v ++ x ≡ version_bytes w ++ y → (v ≡ w) × (x ≡ y)
version_once One One x y same = (refl, append_cancel_left (1 ∷ 0 ∷ []) x y same)
version_once One Two x y same = let first : ◌≡◌ {A = ℕ} 1 2 = cc in absurd (omega (arith, first))
version_once Two One x y same = let first : ◌≡◌ {A = ℕ} 2 1 = cc in absurd (omega (arith, first))
version_once Two Two x y same = (refl, append_cancel_left (2 ∷ 0 ∷ []) x y same)

parts_once : (v w : Version) (h b g d : List ℕ) → v ≡ w → length h < length_bound v → length g < length_bound w
    → length_bytes v (length h) ++ (h ++ b) ≡ length_bytes w (length g) ++ (g ++ d) → (h ≡ g) × (b ≡ d)
parts_once v w h b g d is small tiny same =
    let once = at is small same in same_cut h b g d once.1 once.0 where
      at : v ≡ w → length h < length_bound v → length_bytes v (length h) ++ (h ++ b) ≡ length_bytes w (length g) ++ (g ++ d) → (length h ≡ length g) × (h ++ b ≡ g ++ d)
      at e few cut = length_once w (length h) (length g) (h ++ b) (g ++ d) (subst (λ u. length h < length_bound u) e few) tiny (ap (λ u. length_bytes u (length h) ++ (h ++ b)) (sym e) ∙ cut)

-- bytes are a file in one way at most
pub file_once : (bytes h b g d : List ℕ) → IsFile bytes h b → IsFile bytes g d → (h ≡ g) × (b ≡ d)
file_once bytes h b g d first second =
    let behind = append_cancel_left magic _ _ (sym first.text ∙ second.text) in
    let once = version_once first.version second.version _ _ behind in
    parts_once first.version second.version h b g d once.0 first.short second.short once.1

pub file_version : (bytes h b : List ℕ) → IsFile bytes h b → HasVersion bytes
file_version bytes h b whole = record { version = whole.version; rest = length_bytes whole.version (length h) ++ (h ++ b); text = whole.text }

-- the bytes at the front are bytes
pub small_front : (n : ℕ) (xs : List ℕ) → ((i : ℕ) → get_or xs i 0 < 256) → (i : ℕ) → get_or (take n xs) i 0 < 256
small_front zero xs small i = omega arith
small_front (suc n) [] small i = omega arith
small_front (suc n) (x ∷ xs) small zero = small 0
small_front (suc n) (x ∷ xs) small (suc i) = small_front n xs (λ k. small (suc k)) i
