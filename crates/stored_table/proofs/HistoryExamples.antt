-- Worked examples: what small histories make of databases with 8 chains each.
use Rattle.std.specs.Prelude.{◌≡◌, true, false, List, [], ◌∷◌, ◌++◌, Option, None, Some, codes, refl}
use Rattle.sid_core.specs.declared.call.Call.TheVariants as call
use Rattle.sid_core.specs.declared.entry.Entry.{Entry}
use Rattle.sid_core.specs.declared.reply.Reply.TheVariants as reply
use Rattle.serial_table.specs.Settle.{settle_where, settle_by_key, settle_file}
use Rattle.serial_table.specs.Change.{end_session, begin_session}
use Rattle.serial_table.specs.Decision.{conclude}
use Rattle.serial_table.specs.Break.{break_lease, break_each}
use Rattle.serial_table.specs.Grant.{grant}
use Rattle.serial_table.specs.Open.{handle_breaks, other_breaks, open_by, open_file}
use Rattle.serial_table.specs.Close.{close}
use Rattle.serial_table.specs.Session.{end_of_session}
use Rattle.serial_table.specs.Expire.{expired_by}
use Rattle.serial_table.specs.Step.{caller_of}
use Rattle.chain_map.specs.declared.db.Db.TheVariants.{GLock, Locking, Register}
use Rattle.record_codec.specs.declared.share_rec.ShareRec.{ShareRec}
use Rattle.record_codec.specs.Codec.{raw, read_run, times_read, read_all}
use Rattle.record_codec.specs.OpenRec.{open_fields}
use Rattle.record_codec.specs.GLockRec.{hold, upgrade_watch, glock_fields}
use Rattle.record_codec.specs.ShareRec.{unmarked_entry, share_entry, old_share_fields, share_fields}
use Rattle.record_codec.specs.LeaseRec.{lease_ref, lease_fields}
use Rattle.record_codec.specs.RegisterRec.{register_fields}
use Rattle.record_codec.specs.RangeRec.{range_item, range_fields}
use Rattle.record_codec.specs.MailRec.{token, letter, mail_fields}
use Rattle.serial_table.proofs.Samples.{sid, id}
use Rattle.stored_table.specs.Keys.{lock_key, pid_key, file_key}
use Rattle.stored_table.specs.Places.{Chains, place, chain_of}
use Rattle.stored_table.specs.Decoded.{records_of}
use Rattle.stored_table.specs.Move.{first_chains}
use Rattle.stored_table.specs.Histories.{moved_by, behind_last_call}
use Rattle.stored_table.proofs.Samples.{setup, calls, dies, tidies}

-- ---- where keys are

-- global lock 9
lock_chain : chain_of 8 (place GLock (lock_key 9)) ≡ 9
lock_chain = refl

-- file 1: device 1, inode 11
file_chain : chain_of 8 (place Locking (file_key setup 1)) ≡ 20
file_chain = refl

-- pid 101 is 5 modulo 8
register_chain : chain_of 8 (place Register (pid_key 101)) ≡ 37
register_chain = refl

-- ---- histories

unfoldable after : List Entry → Chains
unfolding conclude expired_by settle_where settle_by_key settle_file end_session begin_session break_lease break_each handle_breaks other_breaks open_by open_file grant close end_of_session caller_of raw read_run times_read read_all open_fields hold upgrade_watch glock_fields unmarked_entry share_entry old_share_fields share_fields lease_ref lease_fields register_fields range_item range_fields token letter mail_fields
after history = moved_by setup 8 history

unfoldable at_first : Chains
unfolding register_fields
at_first = first_chains setup 8

unfoldable share_after : List Entry → Option ShareRec
unfolding after raw read_run times_read read_all unmarked_entry share_entry old_share_fields share_fields
share_after history = (records_of setup 8 (after history)).shares 1

abbrev opened : Entry
opened = calls 1 1 0 (call.OpenFile 1 (record { 0 = 3 }) (record { 0 = 7 }) None 0 false false) (reply.Granted None false)

-- An open that is closed again leaves nothing.
closed_again : after (opened ∷ calls 1 2 0 (call.Close 1) reply.Done ∷ []) ≡ at_first
unfolding after at_first
closed_again = refl

abbrev status : Entry
status = calls 2 2 1 (call.Status (record { shares = false; files = false; ranges = true })) reply.Shown

abbrev left_by_the_dead : List Entry
left_by_the_dead = opened ∷ dies 1 0 ∷ status ∷ []

-- The share mode record keeps the dead worker's entry.
stale_entry_stays : share_after left_by_the_dead ≡ Some (record {
  file = 1;
  path = codes "/data";
  name = codes "a";
  pending = false;
  entries = record { id = id 101 1; owner = sid 101 1; handle = 1; access = record { 0 = 3 }; share = record { 0 = 7 }; lease = None; durable = 0; opened = 0; marked = false } ∷ [];
  watchers = [];
})
unfolding share_after
stale_entry_stays = refl

-- Once its chain is tidied, there is no such record.
stale_entry_goes : share_after (left_by_the_dead ++ tidies 2 20 ∷ calls 2 3 1 call.Tidy reply.Done ∷ []) ≡ None
unfolding share_after
stale_entry_goes = refl

-- ---- the calls of one worker

-- behind worker 2's call before: entries 0 and 1 are of others, 2 is its call, and 3 is no call
behind_call : behind_last_call 2 0 0 (left_by_the_dead ++ tidies 2 20 ∷ []) ≡ 3
behind_call = refl

-- it has none
behind_none : behind_last_call 3 0 0 left_by_the_dead ≡ 0
behind_none = refl
