pub mod Rewriting
pub mod Filters
pub mod SameIds
pub mod Pending
pub mod Runs
pub mod Finding
pub mod Scavenging
pub mod Adding
pub mod Keeping
pub mod Tabling
pub mod Names
pub mod Views
pub mod Members
pub mod Listed
pub mod Going
pub mod Unmoved
pub mod Living
pub mod Consistent
pub mod SettledSound
pub mod Files
pub mod Settling
pub mod Apart
pub mod Every
pub mod Settled
pub mod OtherFiles
pub mod Concluding
pub mod Alike
pub mod InPlace
pub mod SameWorkers
pub mod Workers
pub mod Room
pub mod Woken
pub mod Finishing
pub mod Found
pub mod Heads
pub mod StartRows
pub mod Fitting
pub mod Callers
pub mod Standing
pub mod Numbered
pub mod EndingSessions
pub mod States
pub mod Shown
pub mod BreaksFit
pub mod BreaksLose
pub mod BreaksBring
pub mod BreaksSeen
pub mod Owing
pub mod OwnWaits
pub mod GlobalLockOwed
pub mod RecvOwed
pub mod CloseOwed
pub mod DeleteOwed
pub mod UnlockOwed
pub mod BreaksOwed
pub mod LockOwed
pub mod ReadWriteOwed
pub mod AckOwed
pub mod BreaksLeave
pub mod GrantOwed
pub mod OpenOwed
pub mod CallsOwed
pub mod Expiring
pub mod ExpiringFits
pub mod ExpiredTwice
pub mod Along
pub mod Soundness
pub mod Counting
pub mod Waits
pub mod Bounds
pub mod InSets
pub mod InSetsHistories
pub mod Entries
pub mod Losing
pub mod Deciding
pub mod EndedOwners
pub mod Calling
pub mod Broken
pub mod OpenSeen
pub mod Unleased
pub mod OneProof
pub mod Samples
pub mod SampleCalls
pub mod CallsAt
pub mod Played
pub mod SessionOwed
pub mod ReconnectOwed
pub mod ScavengeOwed
pub mod Scoped
mod SharingExamples
mod SettlingExamples
mod ChangeExamples
mod ConcludingExamples
mod SoundExamples
mod LegalExamples
mod TextExamples
mod Examples
mod CallExamples
mod ViewExamples
mod LocalExamples
mod PlainHistoryExamples
mod LeaseHistoryExamples
mod DurableHistoryExamples
mod LockHistoryExamples
mod StatusHistoryExamples
mod WorkingDay
mod BreakExamples
mod ExpiryExamples
mod ExpiryHistoryExamples
mod AckExamples
mod OpenExamples
mod DeleteExamples
mod DeleteHistoryExamples
mod RangeExamples
mod GlobalLockExamples
mod SessionCallExamples
mod TablesExamples
