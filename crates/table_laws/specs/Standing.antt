-- What it means that an entry keeps what the databases stand for.
use Rattle.std.specs.Prelude.{◌≡◌, ℕ, ◌+◌, ◌==◌, ◌&&◌, false, IfSome, List, [], ◌∷◌, ◌++◌, Some}
use Rattle.std.specs.List.{AllByRecursion}
use Rattle.sid_core.specs.declared.call.Call.{Call}
use Rattle.sid_core.specs.declared.entry.Entry.{Entry}
use Rattle.sid_core.specs.declared.entry.Event.TheVariants.{Called}
use Rattle.sid_core.specs.declared.ids.Moment.{Moment}
use Rattle.sid_core.specs.declared.ids.LeaseName.{LeaseName}
use Rattle.sid_core.specs.declared.ids.Sid.{Sid}
use Rattle.sid_core.specs.Ids.{same_sid}
use Rattle.serial_table.specs.declared.decision.Caller.{Caller}
use Rattle.sid_core.specs.declared.reply.Reply.{Reply}
use Rattle.sid_core.specs.declared.setup.Setup.{Setup}
use Rattle.sid_core.specs.Setup.{IsSetup}
use Rattle.serial_table.specs.View.{View, view}
use Rattle.serial_table.specs.History.{after, IsLegal}
use Rattle.serial_table.specs.Step.{caller_of}
use Rattle.chain_map.specs.declared.db.Db.TheVariants.{Opens}
use Rattle.record_codec.specs.OpenRec.{open_rec}
use Rattle.stored_table.specs.Decoded.{AllRecords, records_of}
use Rattle.stored_table.specs.Met.{record_at}
use Rattle.stored_table.specs.Shown.{part_of}
use Rattle.stored_table.specs.Places.{Chains}
use Rattle.stored_table.specs.Move.{move}
use Rattle.stored_table.specs.Histories.{moved_by}
use Rattle.stored_table.specs.Stands.{StandsFor}

-- Behind a history: whatever chains stand for the table there, what the entry makes of them stands for the table after it.
abbrev pub KeepsStanding : Setup → ℕ → List Entry → Entry → Type 0
KeepsStanding setup n before e =
    (k : Chains) → StandsFor setup n k (view (after setup before))
    → StandsFor setup n (move setup n k e (view (after setup (before ++ e ∷ [])))) (view (after setup (before ++ e ∷ [])))

-- a legal history's next entry does so
abbrev pub LegalKeepsStanding : Setup → ℕ → List Entry → Entry → Type 0
LegalKeepsStanding setup n before e = IsSetup setup → IsLegal setup (before ++ e ∷ []) → KeepsStanding setup n before e

-- the entry of a call
abbrev pub call_entry : ℕ → ℕ → ℕ → Moment → Call → Reply → Entry
call_entry by seq number moment call reply = record { by = by; seq = seq; what = Called number moment call reply }

-- ---- an entry after which a new session lives

-- No record has a hold, an entry or a reference of the session.
pub record IsUnnamed (s : AllRecords) (sid : Sid) : Type 0 where
  pub holds : (key : ℕ) → AllByRecursion (λ h. same_sid sid h.sid ≡ false) (part_of (λ r. r.holds) (s.locks key))
  pub entries : (file : ℕ) → AllByRecursion (λ e. same_sid sid e.owner ≡ false) (part_of (λ r. r.entries) (s.shares file))
  pub refs : (name : LeaseName) → AllByRecursion (λ ref. same_sid sid ref.owner ≡ false) (part_of (λ r. r.refs) (s.leases name))

-- the session that follows
abbrev pub next_sid : Sid → Sid
next_sid sid = record { pid = sid.pid; session = sid.session + 1 }

-- Whatever chains stand for the table there, where no record names the session that follows that of its caller.
abbrev pub KeepsStandingIfUnnamed : Setup → ℕ → List Entry → ℕ → ℕ → Moment → Entry → Type 0
KeepsStandingIfUnnamed setup n before by number moment e =
    (k : Chains) → StandsFor setup n k (view (after setup before))
    → ((caller : Caller) → caller_of setup (view (after setup before)) by number moment ≡ Some caller → IsUnnamed (records_of setup n k) (next_sid caller.sid))
    → StandsFor setup n (move setup n k e (view (after setup (before ++ e ∷ [])))) (view (after setup (before ++ e ∷ [])))

abbrev pub LegalKeepsStandingIfUnnamed : Setup → ℕ → List Entry → ℕ → ℕ → ℕ → Moment → Call → Reply → Type 0
LegalKeepsStandingIfUnnamed setup n before by seq number moment call reply =
    IsSetup setup → IsLegal setup (before ++ call_entry by seq number moment call reply ∷ [])
    → KeepsStandingIfUnnamed setup n before by number moment (call_entry by seq number moment call reply)

-- ---- entries of calls that may wait

-- No register record watches this call of the session yet.
abbrev pub IsUnwatched : Setup → ℕ → Chains → Sid → ℕ → Type 0
IsUnwatched setup n k sid call =
    (pid : ℕ) → AllByRecursion (λ w. (same_sid sid w.sid && (call == w.call)) ≡ false) (part_of (λ r. r.watchers) ((records_of setup n k).register pid))

-- Whatever chains stand for the table there, where no register record watches the call of its caller yet.
abbrev pub KeepsStandingIfNew : Setup → ℕ → List Entry → ℕ → ℕ → Moment → Entry → Type 0
KeepsStandingIfNew setup n before by number moment e =
    (k : Chains) → StandsFor setup n k (view (after setup before))
    → ((caller : Caller) → caller_of setup (view (after setup before)) by number moment ≡ Some caller → IsUnwatched setup n k caller.sid caller.number)
    → StandsFor setup n (move setup n k e (view (after setup (before ++ e ∷ [])))) (view (after setup (before ++ e ∷ [])))

abbrev pub LegalKeepsStandingIfNew : Setup → ℕ → List Entry → ℕ → ℕ → ℕ → Moment → Call → Reply → Type 0
LegalKeepsStandingIfNew setup n before by seq number moment call reply =
    IsSetup setup → IsLegal setup (before ++ call_entry by seq number moment call reply ∷ [])
    → KeepsStandingIfNew setup n before by number moment (call_entry by seq number moment call reply)

-- ---- behind a history

-- What a history makes of chains, as many per database, stands for its table.
abbrev pub HistoryStands : Setup → ℕ → List Entry → Type 0
HistoryStands setup n history = StandsFor setup n (moved_by setup n history) (view (after setup history))

-- What records name behind a history: no register record watches the call that its caller makes next, and no record has a part of the
-- session that follows the caller's.
pub record NameNothingNew (setup : Setup) (n : ℕ) (before : List Entry) (caller : Caller) : Type 0 where
  pub unwatched : IsUnwatched setup n (moved_by setup n before) caller.sid caller.number
  pub unnamed : IsUnnamed (records_of setup n (moved_by setup n before)) (next_sid caller.sid)

-- ---- what open records name

-- Each open record whose id is an open names that open's file.
abbrev pub NameTheirFiles : ℕ → Chains → View → Type 0
NameTheirFiles n k v = (key : List ℕ) → IfSome (record_at open_rec n k Opens key) (λ r. AllByRecursion (λ o. o.file ≡ r.file) (v.opens_of_id r.id))
