-- What is worked out of the two entries on their chains, by computation.
use Rattle.std.specs.Prelude.{◌≡◌, ℕ, true, false, length, List, [], ◌∷◌, replicate, slice_set, refl}
use Rattle.std.specs.List.{AllByRecursion}
use Rattle.std.specs.Option.{is_some}
use Rattle.std.proofs.Common.{arith}
use mathlib.Core.Option.{some}
use lib.ListN.{get_elem?}
use Rattle.sid_core.specs.declared.entry.Entry.{Entry}
use Rattle.chain_map.specs.Hash.{chain_number}
use Rattle.chain_map.specs.Pairs.{Pairs, find}
use Rattle.chain_map.specs.declared.db.Db.TheVariants.{Opens, Locking}
use Rattle.stored_table.specs.Places.{chain_at}
use Rattle.turn_types.specs.Journal.{Chains, has}
use Rattle.records_replay.specs.Rule.{IsLegalStep, Follows}
use Rattle.by_hand.specs.Steps.{Plain, parts}
use Rattle.by_hand.proofs.Plainly.{with_plain}
use Rattle.serial_table.specs.Settle.{settle_where, settle_by_key, settle_file}
use Rattle.serial_table.specs.Change.{end_session, begin_session}
use Rattle.serial_table.specs.Decision.{conclude}
use Rattle.serial_table.specs.Break.{break_lease, break_each}
use Rattle.serial_table.specs.Grant.{grant}
use Rattle.serial_table.specs.Open.{handle_breaks, other_breaks, open_by, open_file}
use Rattle.serial_table.specs.Close.{close}
use Rattle.serial_table.specs.Session.{end_of_session}
use Rattle.serial_table.specs.Expire.{expired_by}
use Rattle.serial_table.specs.Step.{caller_of}
use Rattle.record_codec.specs.Codec.{raw, read_run, times_read, read_all}
use Rattle.record_codec.specs.OpenRec.{open_fields}
use Rattle.record_codec.specs.GLockRec.{hold, upgrade_watch, glock_fields}
use Rattle.record_codec.specs.ShareRec.{unmarked_entry, share_entry, old_share_fields, share_fields}
use Rattle.record_codec.specs.LeaseRec.{lease_ref, lease_fields}
use Rattle.record_codec.specs.RegisterRec.{register_fields}
use Rattle.record_codec.specs.RangeRec.{range_item, range_fields}
use Rattle.record_codec.specs.MailRec.{token, letter, mail_fields}
use Rattle.stored_table.specs.Move.{first_chains}
use Rattle.records_replay.specs.Rule.{step, names}
use Rattle.by_hand.specs.Worked.{row, handle_key, file_key, opened, closed, missed, behind, named_chains, open_writes, close_writes}

-- What an entry needs to be decided by these writes, on these chains.
pub record IsWorked (k : Chains) (own : List Entry) (writes : List Plain) (e : Entry) : Type 0 where
  pub legal : IsLegalStep row k e
  pub follows : Follows own e
  pub named : AllByRecursion (λ c. has c named_chains ≡ true) (names row k e)
  pub held : AllByRecursion (λ w. has (chain_number w.0 w.1 8) named_chains ≡ true) writes
  pub makes : AllByRecursion (λ x. get_elem? (step row k e) x.0 ≡ some x.1) (with_plain 8 writes (parts named_chains k))

-- ---- where the databases start

-- the record of a worker that lives, in its first session
abbrev register_record : ℕ → List ℕ
register_record worker = 82 ∷ 69 ∷ 71 ∷ 73 ∷ 1 ∷ 0 ∷ worker ∷ 0 ∷ 0 ∷ 0 ∷ 1 ∷ 1 ∷ 0 ∷ 0 ∷ 0 ∷ replicate 16 0

abbrev register_chain : ℕ → ℕ → Pairs
register_chain pid worker = (0 ∷ 0 ∷ 0 ∷ pid ∷ [], register_record worker) ∷ []

pub first_is : slice_set (slice_set (slice_set (replicate 56 []) 37 (register_chain 101 1)) 38 (register_chain 102 2)) 39 (register_chain 103 3) ≡ first_chains row 8
unfolding register_fields
first_is = refl

-- ---- the entries

unfoldable pub first : Chains
unfolding register_fields
first = first_chains row 8

unfoldable pub after_open : Chains
unfolding first conclude expired_by settle_where settle_by_key settle_file end_session begin_session break_lease break_each handle_breaks other_breaks open_by open_file grant close end_of_session caller_of raw read_run times_read read_all open_fields hold upgrade_watch glock_fields unmarked_entry share_entry old_share_fields share_fields lease_ref lease_fields register_fields range_item range_fields token letter mail_fields
after_open = step row first opened

pub behind_none : behind [] ≡ first
unfolding first register_fields
behind_none = refl

pub behind_open : behind (opened ∷ []) ≡ after_open
unfolding first after_open conclude expired_by settle_where settle_by_key settle_file end_session begin_session break_lease break_each handle_breaks other_breaks open_by open_file grant close end_of_session caller_of raw read_run times_read read_all open_fields hold upgrade_watch glock_fields unmarked_entry share_entry old_share_fields share_fields lease_ref lease_fields register_fields range_item range_fields token letter mail_fields
behind_open = refl

-- an open that is closed again leaves nothing
pub behind_both : behind (opened ∷ closed ∷ []) ≡ first
unfolding first conclude expired_by settle_where settle_by_key settle_file end_session begin_session break_lease break_each handle_breaks other_breaks open_by open_file grant close end_of_session caller_of raw read_run times_read read_all open_fields hold upgrade_watch glock_fields unmarked_entry share_entry old_share_fields share_fields lease_ref lease_fields register_fields range_item range_fields token letter mail_fields
behind_both = refl

pub first_long : length first ≡ 56
unfolding first
first_long = refl

pub open_long : length after_open ≡ 56
unfolding after_open
open_long = refl

-- what is fetched
pub open_fetches : is_some (find file_key (chain_at first (chain_number Locking file_key 8))) ≡ false
unfolding first
open_fetches = refl

pub close_fetches : is_some (find handle_key (chain_at after_open (chain_number Opens handle_key 8))) ≡ true
unfolding after_open
close_fetches = refl

pub miss_fetches : is_some (find handle_key (chain_at first (chain_number Opens handle_key 8))) ≡ false
unfolding first
miss_fetches = refl

pub open_is_worked : IsWorked first [] open_writes opened
unfolding first conclude expired_by settle_where settle_by_key settle_file end_session begin_session break_lease break_each handle_breaks other_breaks open_by open_file grant close end_of_session caller_of raw read_run times_read read_all open_fields hold upgrade_watch glock_fields unmarked_entry share_entry old_share_fields share_fields lease_ref lease_fields register_fields range_item range_fields token letter mail_fields
open_is_worked = record {
  legal = record { numbered = (omega arith, omega arith); timed = omega arith; in_sets = ((omega arith, omega arith), record { some = omega arith; known = refl }, omega arith, tt, omega arith); answered = refl };
  follows = tt;
  named = (refl, (refl, (refl, (refl, (refl, tt)))));
  held = (refl, (refl, tt));
  makes = (refl, (refl, (refl, (refl, (refl, tt)))));
}

pub close_is_worked : IsWorked after_open (opened ∷ []) close_writes closed
unfolding after_open conclude expired_by settle_where settle_by_key settle_file end_session begin_session break_lease break_each handle_breaks other_breaks open_by open_file grant close end_of_session caller_of raw read_run times_read read_all open_fields hold upgrade_watch glock_fields unmarked_entry share_entry old_share_fields share_fields lease_ref lease_fields register_fields range_item range_fields token letter mail_fields
close_is_worked = record {
  legal = record { numbered = (omega arith, omega arith); timed = omega arith; in_sets = omega arith; answered = refl };
  follows = (omega arith, tt);
  named = (refl, (refl, (refl, (refl, (refl, tt)))));
  held = (refl, (refl, tt));
  makes = (refl, (refl, (refl, (refl, (refl, tt)))));
}

pub miss_is_worked : IsWorked first [] [] missed
unfolding first conclude expired_by settle_where settle_by_key settle_file end_session begin_session break_lease break_each handle_breaks other_breaks open_by open_file grant close end_of_session caller_of raw read_run times_read read_all open_fields hold upgrade_watch glock_fields unmarked_entry share_entry old_share_fields share_fields lease_ref lease_fields register_fields range_item range_fields token letter mail_fields
miss_is_worked = record {
  legal = record { numbered = (omega arith, omega arith); timed = omega arith; in_sets = omega arith; answered = refl };
  follows = tt;
  named = (refl, (refl, (refl, tt)));
  held = tt;
  makes = (refl, (refl, (refl, (refl, (refl, tt)))));
}
