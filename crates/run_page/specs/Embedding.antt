-- Data in the place of a mark.
use Rattle.std.specs.Prelude.{◌≡◌, ℕ, ◌<◌, List, ◌++◌, codes, length}
use Rattle.memchr.specs.Find.{OccursAt}
use Rattle.run_page.specs.declared.embed.EmbedFault.{EmbedFault}
use Rattle.run_page.specs.declared.embed.EmbedFault.TheVariants.{NoMark, MarkTwice, Memory}

-- the mark
abbrev pub mark : List ℕ
mark = codes "@RUN@"

-- the bytes of the mark stand in a text from place i on
abbrev pub StandsAt : List ℕ → ℕ → Type 0
StandsAt text i = OccursAt text mark i

-- the mark stands at this place and at no other
pub record StandsOnlyAt (text : List ℕ) (i : ℕ) : Type 0 where
  pub here : StandsAt text i
  pub only : (j : ℕ) → StandsAt text j → j ≡ i

-- the viewer's text with the content in the place of its one mark
abbrev pub IsEmbedded : List ℕ → List ℕ → List ℕ → Type 0
IsEmbedded viewer content page =
    (before : List ℕ) × (after : List ℕ) × (viewer ≡ before ++ (mark ++ after)) × (page ≡ before ++ (content ++ after)) × StandsOnlyAt viewer (length before)

-- the mark stands nowhere, or at two places, which may share bytes; running out of memory comes only where it stands at one place
abbrev pub IsEmbedFault : List ℕ → EmbedFault → Type 0
IsEmbedFault viewer NoMark = (i : ℕ) → ¬ StandsAt viewer i
IsEmbedFault viewer MarkTwice = (i : ℕ) × (j : ℕ) × (i < j) × StandsAt viewer i × StandsAt viewer j
IsEmbedFault viewer Memory = (i : ℕ) × StandsOnlyAt viewer i
