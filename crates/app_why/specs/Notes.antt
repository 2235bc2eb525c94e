-- The products and totals that the notes name.
use Rattle.std.specs.Prelude.{ℕ, ◌≡◌, ◌≤◌, ◌<◌, List, length, All, Option, Some, None, option_map}
use Rattle.rule_lang.specs.Tree.{ItemTree}
use Rattle.rule_lang.specs.Program.{HasProgram}
use Rattle.rule_check.specs.declared.state.State.{State}
use Rattle.rule_check.specs.Items.{rules_of}
use Rattle.rule_check.specs.Table.{M}
use Rattle.rule_check.specs.Value.{Rules, here_at}
use Rattle.link_net.specs.Neighbours.{IsNetwork, Neighbours, degree, row}
use Rattle.rounds_plan.specs.Configs.{IsPlain, most_rounds}
use Rattle.rounds_plan.specs.Lockstep.{lockstep}
use Rattle.rounds_plan.specs.Plans.{PlanView}
use Rattle.rounds_plan.specs.Rounds.{nears_in}
use Rattle.rule_cuts.specs.declared.cuttable.Cuttable.{Cuttable}
use Rattle.rule_cuts.specs.declared.limits.Limits.{Limits}
use Rattle.rule_cuts.specs.Bounded.{AreValues, IsHereWithin}
use Rattle.rule_cuts.specs.Cuttable.{AreCuttable, noted_places}
use Rattle.app_jobs.specs.Served.{HasResumed}
use Rattle.app_why.specs.Given.{report_of}
use Rattle.app_why.specs.declared.told.Texts.{Texts}

-- in each round of the plan, each node is within the limits of its program, by its lockstep state and those of its neighbours, whose words are values
pub record AreLimitsOf (p : PlanView) (limits : Limits) : Type 0 where
  pub program : limits.program.now ≡ p.program
  pub within : (t u : ℕ) → p.start ≤ t → t ≤ most_rounds → u < length p.network → ((v : ℕ) → AreValues (lockstep p t v))
      → IsHereWithin limits (here_at p.program t u (degree p.network u) (lockstep p t u) (nears_in p.network (lockstep p t) u))

-- on each network that a file can describe, whose weights are words, each node is within the limits of the program, whatever the states are
pub record AreLimitsOfAll (rules : Rules) (limits : Limits) : Type 0 where
  pub program : limits.program.now ≡ rules
  pub within : (network : Neighbours) (round u : ℕ) (at : ℕ → State) → IsNetwork network → ((v : ℕ) → All (λ arc. arc.1 ≤ M) (row network v)) → round ≤ most_rounds → u < length network
      → ((v : ℕ) → AreValues (at v)) → ((v : ℕ) → v < length network → length (at v).words ≡ 8) → ((v : ℕ) → v < length network → IsPlain (length rules.fields) (at v))
      → IsHereWithin limits (here_at rules round u (degree network u) (at u) (nears_in network at u))

-- the limits are those of the program's run of a plan, or of all its runs where none is given
abbrev pub AreLimits : Rules → Option PlanView → Limits → Type 0
AreLimits rules (Some p) limits = (p.program ≡ rules) × AreLimitsOf p limits
AreLimits rules None limits = AreLimitsOfAll rules limits

-- The notes on a program's text name the products and totals at these places: those that can be cut in the run of a plan, or in
-- some run where none is given. One at no such place is never cut.
pub record AreNoted (program : List ℕ) (run : Option PlanView) (places : List ℕ) : Type 0 where
  pub items : List ItemTree
  pub reads : HasProgram program items
  pub limits : Limits
  pub bound : AreLimits (rules_of items) run limits
  pub noted : List Cuttable
  pub cuttable : AreCuttable limits program items noted
  pub are : places ≡ noted_places noted

-- the run of the texts of a program, of a network and of a report to go on from; none without a network
abbrev pub IsRunOf : List ℕ → Option (List ℕ) → Option (List ℕ) → Option PlanView → Type 0
IsRunOf program None report run = run ≡ None
IsRunOf program (Some network) report run = (p : PlanView) × HasResumed program network report p × (run ≡ Some p)

-- the same of the texts of a job
abbrev pub AreNotedIn : Texts → List ℕ → Type 0
AreNotedIn texts places =
    (run : Option PlanView) × IsRunOf texts.program.text.now (option_map (λ named. named.text.now) texts.network) (report_of texts) run × AreNoted texts.program.text.now run places
