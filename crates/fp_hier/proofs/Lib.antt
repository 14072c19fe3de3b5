pub mod AscendingLists
mod BitPlaces
mod CallerClasses
pub mod DeclaringClasses
mod EndingChains
mod FieldWalks
mod FirstGiven
mod FirstMembers
mod FirstNamed
mod GivenMembers
mod InheritedNames
mod InterfaceMethods
pub mod Lineages
mod MarkedRows
mod MemberReferences
mod ReachLemmas
mod ReceiverNames
mod ReceiverRows
mod SearchedPlaces
mod SelectedTargets
mod SharedNames
mod SuperclassLists
mod SuperclassNames
mod TargetBits
mod ToldCalls
mod WaitingNames
mod WalkedNames
