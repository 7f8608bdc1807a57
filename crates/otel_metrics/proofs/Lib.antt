mod InstrumentsLemmas
mod Fronts
