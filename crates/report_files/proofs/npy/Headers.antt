-- A header has one type and one shape.
use Rattle.std.proofs.Common.{◌≡◌, ◌∙◌, ℕ, Bool, true, false, not, List, [], ◌∷◌, ◌++◌, refl, sym, ap, codes, append_assoc, ◌==◌, arith}
use Rattle.std.proofs.lemmas.List.{append_cancel_left}
use Rattle.rule_lang.specs.Tokens.{IsSpan}
use Rattle.rule_lang.proofs.Bytes.{span_same}
use Rattle.report_files.specs.npy.Headers.{IsHeader, order_text, header_front, header_back}
use Rattle.report_files.specs.npy.Parts.{HasFront, HasBack}

-- the pieces of a header
abbrev pub opens : List ℕ
opens = codes "{'descr': '"

abbrev pub orders : List ℕ
orders = codes "', 'fortran_order': "

abbrev pub shapes : List ℕ
shapes = codes ", 'shape': ("

abbrev pub closes : List ℕ
closes = codes "), }"

-- the front of a header, piece by piece
pub front_apart : (kind : List ℕ) (order : Bool) (rest : List ℕ) → header_front kind order ++ rest ≡ opens ++ (kind ++ (orders ++ (order_text order ++ (shapes ++ rest))))
front_apart kind order rest =
    ap (λ t. opens ++ t) (append_assoc kind (orders ++ (order_text order ++ shapes)) rest ∙ ap (λ t. kind ++ (orders ++ t)) (append_assoc (order_text order) shapes rest))

-- bytes begin with one order at most
pub order_once : (o p : Bool) (x y : List ℕ) → order_text o ++ x ≡ order_text p ++ y → (o ≡ p) × (x ≡ y)
order_once true true x y same = (refl, append_cancel_left (codes "True") x y same)
order_once true false x y same = let first : ◌≡◌ {A = ℕ} 84 70 = cc in absurd (omega (arith, first))
order_once false true x y same = let first : ◌≡◌ {A = ℕ} 70 84 = cc in absurd (omega (arith, first))
order_once false false x y same = (refl, append_cancel_left (codes "False") x y same)

-- what stands after the type that was found
pub behind_kind : (header quoted kind rest k r : List ℕ) → header ≡ opens ++ quoted → IsSpan (λ b. not (b == 39)) quoted kind rest → (front : HasFront header k r)
    → (kind ≡ k) × (rest ≡ orders ++ (order_text front.order ++ (shapes ++ r)))
behind_kind header quoted kind rest k r cut span front =
    let inner = append_cancel_left opens quoted _ (sym cut ∙ front.text ∙ front_apart k front.order r) in
    let other : IsSpan (λ b. not (b == 39)) quoted k (orders ++ (order_text front.order ++ (shapes ++ r))) = record { cut = inner; each = front.kind_ends; stops = refl } in
    span_same (λ b. not (b == 39)) quoted kind rest k _ span other

-- what stands after the word for the order
pub behind_orders : (ordered r : List ℕ) (o : Bool) (rest : List ℕ) → rest ≡ orders ++ ordered → rest ≡ orders ++ (order_text o ++ (shapes ++ r)) → ordered ≡ order_text o ++ (shapes ++ r)
behind_orders ordered r o rest cut is = append_cancel_left orders ordered _ (sym cut ∙ is)

-- the front is put together
pub front_whole : (header quoted kind rest ordered left shape : List ℕ) (o : Bool) → header ≡ opens ++ quoted → IsSpan (λ b. not (b == 39)) quoted kind rest
    → rest ≡ orders ++ ordered → ordered ≡ order_text o ++ left → left ≡ shapes ++ shape → HasFront header kind shape
front_whole header quoted kind rest ordered left shape o cut span second third fourth = record {
  order = o;
  kind_ends = span.each;
  text = cut ∙ ap (λ t. opens ++ t) (span.cut ∙ ap (λ t. kind ++ t) (second ∙ ap (λ t. orders ++ t) (third ∙ ap (λ t. order_text o ++ t) fourth))) ∙ sym (front_apart kind o shape);
}

-- a header has one front
pub front_once : (header k r l s : List ℕ) → HasFront header k r → HasFront header l s → (k ≡ l) × (r ≡ s)
front_once header k r l s first second =
    let quoted = k ++ (orders ++ (order_text first.order ++ (shapes ++ r))) in
    let span : IsSpan (λ b. not (b == 39)) quoted k (orders ++ (order_text first.order ++ (shapes ++ r))) = record { cut = refl; each = first.kind_ends; stops = refl } in
    let both = behind_kind header quoted k _ l s (first.text ∙ front_apart k first.order r) span second in
    let orders_same = append_cancel_left orders _ _ both.1 in
    let order = order_once first.order second.order _ _ orders_same in
    (both.0, append_cancel_left shapes r s order.1)

-- what stands after the shape that was found
pub behind_shape : (bytes shape rest s : List ℕ) → IsSpan (λ b. not (b == 41)) bytes shape rest → (back : HasBack bytes s) → (shape ≡ s) × (rest ≡ closes ++ (back.blanks ++ 10 ∷ []))
behind_shape bytes shape rest s span back =
    let other : IsSpan (λ b. not (b == 41)) bytes s (closes ++ (back.blanks ++ 10 ∷ [])) = record { cut = back.text; each = back.shape_ends; stops = refl } in
    span_same (λ b. not (b == 41)) bytes shape rest s _ span other

-- a header has a front and a back
pub header_parts : (header kind shape : List ℕ) → (whole : IsHeader header kind shape) → HasFront header kind (header_back shape whole.blanks) × HasBack (header_back shape whole.blanks) shape
header_parts header kind shape whole = (
  record { order = whole.order; kind_ends = whole.kind_ends; text = whole.text },
  record { blanks = whole.blanks; shape_ends = whole.shape_ends; blank = whole.blank; text = refl },
)

pub header_whole : (header kind rest shape : List ℕ) → HasFront header kind rest → HasBack rest shape → IsHeader header kind shape
header_whole header kind rest shape front back = record {
  order = front.order;
  blanks = back.blanks;
  kind_ends = front.kind_ends;
  shape_ends = back.shape_ends;
  blank = back.blank;
  text = front.text ∙ ap (λ t. header_front kind front.order ++ t) back.text;
}

-- the back of a header, where its front was found
pub back_of : (header kind rest k s : List ℕ) → HasFront header kind rest → IsHeader header k s → HasBack rest s
back_of header kind rest k s front whole =
    let parts = header_parts header k s whole in
    let once = front_once header kind rest k (header_back s whole.blanks) front parts.0 in
    record { blanks = parts.1.blanks; shape_ends = parts.1.shape_ends; blank = parts.1.blank; text = once.1 ∙ parts.1.text }

-- a header has one type and one shape
pub words_once : (header k s l t : List ℕ) → IsHeader header k s → IsHeader header l t → (k ≡ l) × (s ≡ t)
words_once header k s l t first second =
    let parts = header_parts header k s first in
    let back = back_of header k (header_back s first.blanks) l t parts.0 second in
    let kinds = front_once header k (header_back s first.blanks) l (header_back t second.blanks) parts.0 (header_parts header l t second).0 in
    let span : IsSpan (λ b. not (b == 41)) (header_back s first.blanks) s (closes ++ (first.blanks ++ 10 ∷ [])) = record { cut = refl; each = first.shape_ends; stops = refl } in
    (kinds.0, (behind_shape (header_back s first.blanks) s _ t span back).0)
