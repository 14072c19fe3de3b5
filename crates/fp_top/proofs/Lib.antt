mod DecideLemmas
mod TopLemmas
mod SystemLemmas
mod WordLemmas
mod MethodLemmas
