mod BeginLemmas
mod CellLemmas
mod EntityLemmas
mod ListLemmas
mod MemberLemmas
mod NumberingLemmas
mod SplitLemmas
mod TextLemmas
