-- One more edge.
use Rattle.std.proofs.Common.{◌≡◌, ℕ, ◌+◌, ◌<◌, ◌≤◌, List, [], ◌∷◌, ◌++◌, length, take, drop, get_or, refl, ap, sym, ◌∙◌, append_assoc}
use Rattle.std.proofs.lemmas.List.{append-nil, drop_all, map-append, drop_more, take_more, take-append-drop}
use Rattle.import_links.specs.declared.placed.PlacedLink.{PlacedLink}
use Rattle.net_names.specs.Naming.{with_name}
use Rattle.import_lines.specs.declared.mention.Mention.{Mention}
use Rattle.import_lines.specs.Named.{NamedEdge}
use Rattle.import_links.specs.Joining.{names_of, names_in, with_ends, names_with, link_in, links_with, links_of}
use Rattle.import_links.proofs.Stable.{links_all, names-push}

module _ (edges : List NamedEdge) (i : ℕ) (e : NamedEdge) (low : i < length edges) (at : e ≡ get_or edges i e) where
  from_here : drop i edges ≡ e ∷ drop (i + 1) edges
  from_here = drop_more edges i e low ∙ ap (λ d. d ∷ drop (i + 1) edges) (sym at)

  up_to_here : take (i + 1) edges ≡ take i edges ++ e ∷ []
  up_to_here = take_more edges i e low ∙ ap (λ d. take i edges ++ d ∷ []) (sym at)

  pub parted : edges ≡ take i edges ++ e ∷ drop (i + 1) edges
  parted = sym (take-append-drop i edges) ∙ ap (λ rest. take i edges ++ rest) from_here

  pub names_next : (given names now : List (List ℕ)) → names ≡ names_with given (take i edges) → now ≡ with_ends names e → now ≡ names_with given (take (i + 1) edges)
  names_next given names now were is = is ∙ ap (λ ns. with_ends ns e) were ∙ sym (ap (names_with given) up_to_here ∙ names-push given (take i edges) e)

  pub rest_next : (names now : List (List ℕ)) (all : List (List ℕ)) → names_with names (drop i edges) ≡ all → now ≡ with_ends names e → names_with now (drop (i + 1) edges) ≡ all
  rest_next names now all were is = ap (λ ns. names_with ns (drop (i + 1) edges)) is ∙ sym (ap (names_with names) from_here) ∙ were

  pub links_next : (names now : List (List ℕ)) (done more all : List PlacedLink) (link : PlacedLink) → done ++ links_with names (drop i edges) ≡ all → now ≡ with_ends names e → link ≡ link_in (with_ends names e) e → more ≡ done ++ link ∷ []
      → more ++ links_with now (drop (i + 1) edges) ≡ all
  links_next names now done more all link were is made put =
      ap (λ ls. ls ++ links_with now (drop (i + 1) edges)) put ∙ append_assoc done (link ∷ []) (links_with now (drop (i + 1) edges))
      ∙ (λ j. done ++ (made j ∷ links_with (is j) (drop (i + 1) edges))) ∙ sym (ap (λ es. done ++ links_with names es) from_here) ∙ were

-- no edge is left
pub all_linked : (given names : List (List ℕ)) (edges : List NamedEdge) (i : ℕ) (done : List PlacedLink) → length edges ≤ i → done ++ links_with names (drop i edges) ≡ links_with given edges → done ≡ links_of given edges
all_linked given names edges i done end were =
    sym (append-nil done) ∙ sym (ap (λ es. done ++ links_with names es) (drop_all i edges end)) ∙ were ∙ links_all given edges

-- one name more
names_push : (names ms : List (List ℕ)) (m : List ℕ) → names_in names (ms ++ m ∷ []) ≡ with_name (names_in names ms) m
names_push names [] m = refl
names_push names (x ∷ ms) m = names_push (with_name names x) ms m

module _ (mentions : List Mention) (i : ℕ) (m d : Mention) (low : i < length mentions) (at : m ≡ get_or mentions i d) where
  from_mention : drop i mentions ≡ m ∷ drop (i + 1) mentions
  from_mention = drop_more mentions i d low ∙ ap (λ x. x ∷ drop (i + 1) mentions) (sym at)

  up_to_mention : take (i + 1) mentions ≡ take i mentions ++ m ∷ []
  up_to_mention = take_more mentions i d low ∙ ap (λ x. take i mentions ++ x ∷ []) (sym at)

  pub mentions_parted : mentions ≡ take i mentions ++ m ∷ drop (i + 1) mentions
  mentions_parted = sym (take-append-drop i mentions) ∙ ap (λ rest. take i mentions ++ rest) from_mention

  pub mention_named : (names now : List (List ℕ)) → names ≡ names_in [] (names_of (take i mentions)) → now ≡ with_name names m.name.now → now ≡ names_in [] (names_of (take (i + 1) mentions))
  mention_named names now were is =
      is ∙ ap (λ ns. with_name ns m.name.now) were
      ∙ sym (ap (names_in []) (ap names_of up_to_mention ∙ map-append (λ x. x.name.now) (take i mentions) (m ∷ [])) ∙ names_push [] (names_of (take i mentions)) m.name.now)

  pub mention_left : (names now all : List (List ℕ)) → names_in names (names_of (drop i mentions)) ≡ all → now ≡ with_name names m.name.now → names_in now (names_of (drop (i + 1) mentions)) ≡ all
  mention_left names now all were is =
      ap (λ ns. names_in ns (names_of (drop (i + 1) mentions))) is ∙ sym (ap (λ ms. names_in names (names_of ms)) from_mention) ∙ were
