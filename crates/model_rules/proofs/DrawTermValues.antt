-- The terms of draws are worth what is drawn.
use Rattle.std.proofs.Common.{◌≡◌, ℕ, List, refl}
use Rattle.std.specs.Prelude.{min}
use Rattle.rule_check.specs.declared.state.Near.{Near}
use Rattle.rule_check.specs.Table.{M}
use Rattle.rule_check.specs.Value.{Here}
use Rattle.model_rules.specs.Draws.{drawn, drawn_on_link}
use Rattle.model_rules.specs.Terms.{term_value}
use Rattle.model_rules.specs.DrawTerms.{node_draw_term, link_draw_term}

pub node_draw_value : (seed draw : ℕ) (here : Here) (xs : List ℕ) (near : Near) → term_value here xs (node_draw_term seed draw) near ≡ drawn seed draw (min here.round M) here.id
node_draw_value seed draw here xs near = refl

pub link_draw_value : (seed draw : ℕ) (here : Here) (xs : List ℕ) (near : Near) → term_value here xs (link_draw_term seed draw) near ≡ drawn_on_link seed draw (min here.round M) here.id near.id
link_draw_value seed draw here xs near = refl
