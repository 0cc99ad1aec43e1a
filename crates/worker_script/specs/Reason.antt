-- The numbers of the reasons.
use Rattle.std.specs.Prelude.{ℕ}
use Rattle.worker_script.specs.declared.reason.Reason.{Reason}
use Rattle.worker_script.specs.declared.reason.Reason.TheVariants.{NotPlain, UnknownLine, WrongLength, WrongNumber, LateDeclaration, NotNext, TooManyWorkers, TooManyFiles, TooManyPhases, TooManyCalls, TooManyStatuses, KnownPid, KnownPlace, LongText, EarlierMoment, NoPhase, UnknownWorker, UnknownCall, UnknownFile, WrongAccess, WrongShare, WrongOption, AfterStop, UnknownStop, UnknownEnding}

abbrev pub number_of : Reason → ℕ
number_of NotPlain = 1
number_of UnknownLine = 2
number_of WrongLength = 3
number_of WrongNumber = 4
number_of LateDeclaration = 5
number_of NotNext = 6
number_of TooManyWorkers = 7
number_of TooManyFiles = 8
number_of TooManyPhases = 9
number_of TooManyCalls = 10
number_of TooManyStatuses = 11
number_of KnownPid = 12
number_of KnownPlace = 13
number_of LongText = 14
number_of EarlierMoment = 15
number_of NoPhase = 16
number_of UnknownWorker = 17
number_of UnknownCall = 18
number_of UnknownFile = 19
number_of WrongAccess = 20
number_of WrongShare = 21
number_of WrongOption = 22
number_of AfterStop = 23
number_of UnknownStop = 24
number_of UnknownEnding = 25
