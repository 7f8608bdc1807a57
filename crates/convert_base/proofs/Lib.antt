mod MarkupLemmas
