pub mod Bounds
mod Roomy
pub mod MapFolds
mod ListMaps
pub mod SortedEntries
mod AllTasks
pub mod Foremost
mod Earliest
mod RunnableMaps
mod TreeLeasts
pub mod TreeHeights
mod TreeOrder
pub mod TreeLengths
mod TreeSearch
mod TreeSides
mod TreeEligible
pub mod TreeLast
mod LastOfAll
mod TreeSorted
pub mod AsleepMaps
pub mod DueTasks
pub mod Sound
mod Picking
pub mod Scaled
pub mod Signed
pub mod Mean
pub mod SomeEligible
mod Picked
mod SleepingLag
mod Placed
mod Waking
mod Rebasing
mod TreeLists
mod TreeSeen
pub mod TreeMaps
pub mod TreeCandidates
pub mod TreeChange
pub mod TreeAge
mod Ageing
mod ChargedRange
pub mod TreeTotals
pub mod PickedTasks
mod Waiting
pub mod Offering
pub mod SmallSums
pub mod Renicing
pub mod Joining
pub mod Ascending
mod Descending
mod OneSide
pub mod ShortestTicks
mod KeptAsleep
pub mod Closing
mod AsleepCounts
pub mod Floors
pub mod LoweredLists
pub mod LoweredMaps
mod LoweredQueues
mod LoweredStores
mod Rooms
mod Spots
