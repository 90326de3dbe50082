pub mod BlockText
pub mod Text
pub mod TextDeed
pub mod TextQueue
pub mod TextReport
pub mod TextSchedules
pub mod TextTimes
