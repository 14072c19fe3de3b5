pub mod BegunLists
pub mod BegunSteps
mod CallTables
mod CallsWithin
mod DirectSteps
mod FactsTold
mod FieldTypes
mod FrameLists
mod GatheredFacts
mod InitialisedClasses
mod MetReferences
mod NextSteps
mod NumberRanges
mod ReachedNodes
mod ReachedSeeds
mod RoomSums
mod RootTypes
mod SameReferences
mod SeedNames
mod SeedNodes
mod SeedWays
mod SortedEdges
