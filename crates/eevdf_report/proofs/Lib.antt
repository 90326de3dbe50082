mod ByNumber
mod FoundEntries
mod ScheduleLines
mod TimedLines
