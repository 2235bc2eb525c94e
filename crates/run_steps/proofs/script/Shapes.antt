-- Shapes that words have, and those that they do not have.
use Rattle.std.proofs.Common.{◌≡◌, ◌≢◌, ℕ, All, List, [], ◌∷◌, codes, refl}
use Rattle.std.proofs.lemmas.List.Elements.{All-from_recursion}
use Rattle.run_steps.specs.script.Unsaid.{Place, this, a_node, a_count, shapes, HaveShape, IsShapeOf}

module _ (words : List (List ℕ)) where
  abbrev Lacks : List Place → Type 0
  Lacks shape = HaveShape words shape → ⊥

pub no-words : All (Lacks []) shapes
no-words = All-from_recursion (Lacks []) shapes (λ h. h, (λ h. h, (λ h. h, (λ h. h, (λ h. h, (λ h. h, (λ h. h, tt)))))))

module _ (first : List ℕ) where
  pub one-word : first ≢ codes "sweep" → first ≢ codes "}" → All (Lacks (first ∷ [])) shapes
  one-word sweep end = All-from_recursion (Lacks (first ∷ [])) shapes (λ h. sweep h.0, (λ h. end h.0, (λ h. h.1, (λ h. h.1, (λ h. h.1, (λ h. h.1, (λ h. h.1, tt)))))))

  module _ (second : List ℕ) where
    pub two-words : second ≢ codes "moves" → second ≢ codes "turn" → All (Lacks (first ∷ second ∷ [])) shapes
    two-words moves turn =
        All-from_recursion (Lacks (first ∷ second ∷ [])) shapes
        (λ h. h.1, (λ h. h.1, (λ h. moves h.1.0, (λ h. turn h.1.0, (λ h. h.1.1, (λ h. h.1.1, (λ h. h.1.1, tt)))))))

    pub of-moves : second ≡ codes "moves" → IsShapeOf (first ∷ second ∷ []) (a_node ∷ this (codes "moves") ∷ [])
    of-moves is =
        let before : List (List Place) =
        (this (codes "sweep") ∷ []) ∷ (this (codes "}") ∷ []) ∷ [] in
        record {
          before = before;
          behind = (a_node ∷ this (codes "turn") ∷ []) ∷ (this (codes "repeat") ∷ a_count ∷ this (codes "{") ∷ []) ∷ (a_node ∷ this (codes "reads") ∷ this (codes "all") ∷ []) ∷ (a_node ∷ this (codes "reads") ∷ a_node ∷ []) ∷ [];
          among = refl;
          has = (tt, (is, tt));
          first = All-from_recursion (Lacks (first ∷ second ∷ [])) before (λ h. h.1, (λ h. h.1, tt));
        }

    pub of-turn : second ≢ codes "moves" → second ≡ codes "turn" → IsShapeOf (first ∷ second ∷ []) (a_node ∷ this (codes "turn") ∷ [])
    of-turn moves is =
        let before : List (List Place) =
        (this (codes "sweep") ∷ []) ∷ (this (codes "}") ∷ []) ∷ (a_node ∷ this (codes "moves") ∷ []) ∷ [] in
        record {
          before = before;
          behind = (this (codes "repeat") ∷ a_count ∷ this (codes "{") ∷ []) ∷ (a_node ∷ this (codes "reads") ∷ this (codes "all") ∷ []) ∷ (a_node ∷ this (codes "reads") ∷ a_node ∷ []) ∷ [];
          among = refl;
          has = (tt, (is, tt));
          first = All-from_recursion (Lacks (first ∷ second ∷ [])) before (λ h. h.1, (λ h. h.1, (λ h. moves h.1.0, tt)));
        }

    module _ (third : List ℕ) (other : first ≡ codes "repeat" → third ≢ codes "{") where
      pub three-words : second ≢ codes "reads" → All (Lacks (first ∷ second ∷ third ∷ [])) shapes
      three-words reads =
          All-from_recursion (Lacks (first ∷ second ∷ third ∷ [])) shapes
          (λ h. h.1, (λ h. h.1, (λ h. h.1.1, (λ h. h.1.1, (λ h. other h.0 h.1.1.0, (λ h. reads h.1.0, (λ h. reads h.1.0, tt)))))))

      pub of-reads_all : second ≡ codes "reads" → third ≡ codes "all" → IsShapeOf (first ∷ second ∷ third ∷ []) (a_node ∷ this (codes "reads") ∷ this (codes "all") ∷ [])
      of-reads_all reads all =
          let before : List (List Place) =
          (this (codes "sweep") ∷ []) ∷ (this (codes "}") ∷ []) ∷ (a_node ∷ this (codes "moves") ∷ []) ∷ (a_node ∷ this (codes "turn") ∷ []) ∷ (this (codes "repeat") ∷ a_count ∷ this (codes "{") ∷ []) ∷ [] in
          record {
            before = before;
            behind = (a_node ∷ this (codes "reads") ∷ a_node ∷ []) ∷ [];
            among = refl;
            has = (tt, (reads, (all, tt)));
            first = All-from_recursion (Lacks (first ∷ second ∷ third ∷ [])) before (λ h. h.1, (λ h. h.1, (λ h. h.1.1, (λ h. h.1.1, (λ h. other h.0 h.1.1.0, tt)))));
          }

      pub of-reads : second ≡ codes "reads" → third ≢ codes "all" → IsShapeOf (first ∷ second ∷ third ∷ []) (a_node ∷ this (codes "reads") ∷ a_node ∷ [])
      of-reads reads all =
          let before : List (List Place) =
          (this (codes "sweep") ∷ []) ∷ (this (codes "}") ∷ []) ∷ (a_node ∷ this (codes "moves") ∷ []) ∷ (a_node ∷ this (codes "turn") ∷ []) ∷ (this (codes "repeat") ∷ a_count ∷ this (codes "{") ∷ [])
          ∷ (a_node ∷ this (codes "reads") ∷ this (codes "all") ∷ []) ∷ [] in
          record {
            before = before;
            behind = [];
            among = refl;
            has = (tt, (reads, (tt, tt)));
            first = All-from_recursion (Lacks (first ∷ second ∷ third ∷ [])) before (λ h. h.1, (λ h. h.1, (λ h. h.1.1, (λ h. h.1.1, (λ h. other h.0 h.1.1.0, (λ h. all h.1.1.0, tt))))));
          }

    pub many-words : (third more : List ℕ) (words : List (List ℕ)) → All (Lacks (first ∷ second ∷ third ∷ more ∷ words)) shapes
    many-words third more words =
        All-from_recursion (Lacks (first ∷ second ∷ third ∷ more ∷ words)) shapes
        (λ h. h.1, (λ h. h.1, (λ h. h.1.1, (λ h. h.1.1, (λ h. h.1.1.1, (λ h. h.1.1.1, (λ h. h.1.1.1, tt)))))))
