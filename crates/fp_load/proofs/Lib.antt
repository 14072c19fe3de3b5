mod PathLemmas
mod PassedLemmas
mod GatheringLemmas
mod ReadLemmas
mod OutcomeLemmas
mod SizeLemmas
mod JudgingLemmas
