mod StringOn
mod OnLemmas
mod NumeralOn
mod TokenLemmas
mod ReadLemmas
mod PlaceLemmas
mod LineLemmas
