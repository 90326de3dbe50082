pub mod Steps
mod Passed
mod Lending
mod Exported
mod Moved
mod Emptied
mod Few
mod TaskCodes
mod Pulling
mod Fair
mod Shares
mod OtherCalls
