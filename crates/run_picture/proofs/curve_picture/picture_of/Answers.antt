use Rattle.std.proofs.Common.{◌≡◌, ◌∙◌, ◌<◌, ◌≤◌, ◌^◌, ℕ, List, ap, arith, length, subst}
use Rattle.run_counts.specs.Rows.{AreValues}
use Rattle.run_picture.specs.Curves.{most_curves, plotted}
use Rattle.run_picture.specs.Keys.{key_of}
use Rattle.run_picture.specs.Ticks.{ticks}
use Rattle.run_picture.proofs.DrawnCurves.{is_count_picture}
use Rattle.run_picture.proofs.curve_picture.picture_of.Goals as goal

pub returns-clause-text : goal.returns-clause-text
returns-clause-text c =
    let p = c.args.plan.now in
    let drawing = c.args.drawing.now in
    let styles = drawing.colouring.styles.now in
    let span = drawing.span.now in
    let rows = c.args.rows.now in
    let values = c.in_ok-values.values.items in
    let count : c.nodes.result ≡ length p.network = c.nodes.ensures.count in
    let nodes : length p.network < 2 ^ 32 = omega (arith, c.nodes.ensures.whole.network.nodes) in
    let few : length values ≤ most_curves = omega (arith, c.len.ensures, c.if-len-gt-MOST_CURVES.false) in
    let once = subst (λ (n : ℕ). AreValues n rows values) c.states_drawn.ensures.states c.in_ok-values.ensures.values in
    is_count_picture p drawing rows values c.in_ok-text.text.items c.requires.fits nodes c.requires.rows once few
    (c.in_ok-text.ensures.text
    ∙ ap (λ (n : ℕ). plotted span n (ticks span.first span.last) (ticks 0 n) (key_of styles c.deref.result.now) rows c.deref.result.now) count
    ∙ ap (λ (vs : List ℕ). plotted span (length p.network) (ticks span.first span.last) (ticks 0 (length p.network)) (key_of styles vs) rows vs) c.deref.ensures.value)
