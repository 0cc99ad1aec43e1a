-- A worked example: a working day in an office, with what it prints.
use Rattle.std.specs.Prelude.{◌≡◌, ℕ, List, true, false, [], ◌∷◌, codes, refl}
use Rattle.sid_core.specs.declared.call.Call.TheVariants as call
use Rattle.sid_core.specs.declared.call.Mode.TheVariants.{Exclusive}
use Rattle.sid_core.specs.declared.entry.Entry.{Entry}
use Rattle.sid_core.specs.declared.setup.Setup.{Setup}
use Rattle.sid_core.specs.declared.setup.WorkerInfo.{WorkerInfo}
use Rattle.sid_core.specs.declared.setup.FileInfo.{FileInfo}
use Rattle.serial_table.proofs.Played.{played, shown_at_the_end}
use Rattle.serial_table.proofs.Samples.{state, opens}
use Rattle.serial_table.proofs.SampleCalls.{does, ends, opens_leased, opens_durable, span, shows, printed}

abbrev desk : ℕ → ℕ → ℕ → List ℕ → WorkerInfo
desk pid uid guid machine = record { pid = pid; uid = uid; guid = guid; machine = machine; share = codes "data"; old = false }

abbrev file : ℕ → List ℕ → FileInfo
file inode name = record { dev = 1; inode = inode; path = codes "/srv/data"; name = name }

abbrev office : Setup
office = record {
  workers = desk 101 1000 11 (codes "desk1") ∷ desk 102 1001 22 (codes "desk2") ∷ desk 103 1002 33 (codes "desk3") ∷ [];
  files =
      file 11 (codes "plan.odt") ∷ file 12 (codes "budget.ods") ∷ file 13 (codes "notes.txt") ∷ file 14 (codes "mail.db") ∷ file 15 (codes "logo.svg")
      ∷ file 16 (codes "old.txt") ∷ [];
}

abbrev day : List Entry
day =
    does 1 1 100 (opens_durable 1 0x3 1 1 7 60) ∷ does 1 2 100 (opens_durable 3 0x3 7 3 7 60) ∷ does 1 3 100 (opens 4 0x3 3)
    ∷ does 1 4 100 (call.Lock 3 (span 0 512) Exclusive false) ∷ does 2 1 110 (opens_leased 1 0x3 1 1 7)
    ∷ does 2 2 110 (opens_leased 3 0x1 7 3 3) ∷ does 2 3 110 (opens 4 0x3 3)
    ∷ does 2 4 110 (call.Lock 3 (span 256 256) Exclusive false) ∷ does 2 5 110 (call.Lock 3 (span 512 512) Exclusive true)
    ∷ does 1 5 120 call.Recv ∷ does 1 6 120 (call.Ack 1 (state 5)) ∷ does 1 7 120 call.Recv ∷ does 1 8 120 (call.Ack 3 (state 3))
    ∷ does 2 6 130 call.Recv ∷ does 2 7 130 (opens_leased 1 0x3 1 1 7) ∷ does 2 8 130 call.Recv
    ∷ does 2 9 130 (opens_leased 3 0x1 7 3 3) ∷ does 3 1 140 (opens 5 0x80 7) ∷ does 3 2 140 (opens 6 0x10000 7)
    ∷ does 3 3 140 (call.GLock 5 Exclusive false) ∷ does 3 4 140 (opens_leased 2 0x3 0 2 7) ∷ does 3 5 140 call.Recv ∷ ends 3 140
    ∷ does 1 9 150 call.Disconnect ∷ does 2 10 160 (opens_leased 1 0x1 3 1 3) ∷ does 2 11 160 (call.Write 3 (span 256 16))
    ∷ does 2 12 160 (call.GLock 5 Exclusive false) ∷ does 2 13 160 (shows false true true) ∷ does 1 10 170 (call.Reconnect 1 2 3)
    ∷ does 1 11 170 (opens 2 0x1 1) ∷ does 1 12 170 (call.Close 10) ∷ does 2 14 240 call.Scavenge ∷ does 2 15 240 (call.Close 3)
    ∷ []

-- A day of three workers: leases, durable opens, ranges, a global lock, a death, and the tables near its end.
working_day : played office day ≡ printed (
    codes "1.1 open GRANTED lease=RWH durable" ∷ codes "1.2 open GRANTED lease=RWH durable" ∷ codes "1.3 open GRANTED"
    ∷ codes "1.4 lock GRANTED" ∷ codes "2.1 open PENDING" ∷ codes "  -> 1 BREAK file=1 key=1 RWH->RW ack"
    ∷ codes "2.2 open PENDING" ∷ codes "  -> 1 BREAK file=3 key=3 RWH->RH ack" ∷ codes "2.3 open GRANTED"
    ∷ codes "2.4 lock LOCK_NOT_GRANTED" ∷ codes "2.5 lock GRANTED" ∷ codes "1.5 recv BREAK file=1 key=1 RWH->RW ack"
    ∷ codes "1.6 ack OK" ∷ codes "  -> 2 WAKE 1" ∷ codes "1.7 recv BREAK file=3 key=3 RWH->RH ack" ∷ codes "1.8 ack OK"
    ∷ codes "  -> 2 WAKE 2" ∷ codes "2.6 recv WAKE 1" ∷ codes "2.7 open SHARING_VIOLATION" ∷ codes "2.8 recv WAKE 2"
    ∷ codes "2.9 open GRANTED lease=RH" ∷ codes "3.1 open GRANTED" ∷ codes "3.2 open GRANTED" ∷ codes "3.3 glock GRANTED"
    ∷ codes "3.4 open GRANTED lease=RWH" ∷ codes "3.5 recv EMPTY" ∷ codes "3 died" ∷ codes "1.9 disconnect OK"
    ∷ codes "2.10 open GRANTED lease=RH" ∷ codes "2.11 write OK" ∷ codes "2.12 glock GRANTED" ∷ codes "2.13 status SHOWN"
    ∷ codes "Locked files:" ∷ codes "Pid    User   DenyMode   Access    R/W    Lease Path         Name         Time"
    ∷ codes "------------------------------------------------------------------------------"
    ∷ codes "102    1001   DENY_NONE  0x1       RDONLY RH    /srv/data    plan.odt     160"
    ∷ codes "-      1000   DENY_NONE  0x3       RDWR   RH    /srv/data    notes.txt    100"
    ∷ codes "102    1001   DENY_NONE  0x1       RDONLY RH    /srv/data    notes.txt    130"
    ∷ codes "102    1001   DENY_NONE  0x3       RDWR   NONE  /srv/data    mail.db      110" ∷ [] ∷ codes "Byte range locks:"
    ∷ codes "Pid    Kind Start                Length               Name"
    ∷ codes "----------------------------------------------------------"
    ∷ codes "102    x    512                  512                  mail.db" ∷ [] ∷ codes "1.10 reconnect GRANTED lease=RH durable"
    ∷ codes "1.11 open GRANTED" ∷ codes "1.12 close OK" ∷ codes "2.14 scavenge SCAVENGED 0" ∷ codes "2.15 close OK" ∷ []
    )
unfolding played
working_day = refl

-- Worker 1 is in its second session since 150, and worker 3 is dead. What worker 1 had locked and what it took up again is closed.
tables_at_the_end : shown_at_the_end office day (record { shares = true; files = true; ranges = true }) ≡ printed (
    codes "Service      Pid    Machine      Connected" ∷ codes "------------------------------------------"
    ∷ codes "data         101    desk1        150" ∷ codes "data         102    desk2        0" ∷ [] ∷ codes "Locked files:"
    ∷ codes "Pid    User   DenyMode   Access    R/W    Lease Path         Name         Time"
    ∷ codes "------------------------------------------------------------------------------"
    ∷ codes "102    1001   DENY_NONE  0x1       RDONLY RH    /srv/data    plan.odt     160"
    ∷ codes "101    1000   DENY_WRITE 0x1       RDONLY NONE  /srv/data    budget.ods   170"
    ∷ codes "102    1001   DENY_NONE  0x1       RDONLY RH    /srv/data    notes.txt    130" ∷ [] ∷ codes "No byte range locks" ∷ [] ∷ []
    )
unfolding shown_at_the_end
tables_at_the_end = refl
