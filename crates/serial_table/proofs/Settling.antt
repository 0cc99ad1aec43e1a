-- To settle a settled file changes nothing.
use Rattle.std.proofs.Common.{◌≡◌, Bool, true, false, cond, not, ◌&&◌, ◌||◌, List, [], ◌∷◌, filter, map, Option, Some, None, refl, sym, ap, ◌∙◌}
use Rattle.std.proofs.lemmas.Bool.{not-true, and_right, or_parts}
use Rattle.std.proofs.Math.Bool.{and-false}
use Rattle.std.specs.List.{list_any}
use Rattle.std.specs.Option.{option_map_or}
use Rattle.sid_core.specs.declared.ids.LeaseName.{LeaseName}
use Rattle.sid_core.specs.Ids.{same_id}
use Rattle.sid_core.specs.Values.{has}
use Rattle.serial_table.specs.declared.rows.RangeRow.{RangeRow}
use Rattle.serial_table.specs.declared.rows.LeaseRow.{LeaseRow}
use Rattle.serial_table.specs.declared.rows.Breaking.{Breaking}
use Rattle.serial_table.specs.File.{FileView, FileOpen, is_under}
use Rattle.serial_table.specs.Settle.{settle_file, settled_lease, broken_to_needed, lacks_handle, keeps_open, keeps_range, keeps_lease, keeps_pending}
use Rattle.serial_table.proofs.Filters.{filter_kept, filter_all, any_none, any_kept, any_same, map_again}
use Rattle.serial_table.proofs.Views.{name-settled_lease}

-- what is dropped isn't connected
dropped : (f : FileView) (name : LeaseName) (o : FileOpen) → keeps_open f o ≡ false → (is_under name o && o.connected) ≡ false
dropped f name o e = and_right (is_under name o) o.connected (or_parts o.connected (not (option_map_or (λ name. list_any (lacks_handle f) (f.leases name)) o.row.lease false)) e).0

settled_again_here : (l : LeaseRow) (o : Option Breaking) (b c : Bool) → l.breaking ≡ o → (b ≡ true → c ≡ true)
    → cond c (cond b l (broken_to_needed l o)) (broken_to_needed (cond b l (broken_to_needed l o)) (cond b l (broken_to_needed l o)).breaking) ≡ cond b l (broken_to_needed l o)
settled_again_here l o true c e h = ap (λ d. cond d l (broken_to_needed l l.breaking)) (h refl)
settled_again_here l o false true e h = refl
settled_again_here l None false false e h = ap (broken_to_needed l) e
settled_again_here l (Some breaking) false false e h = refl

settled_lease_again : (f : FileView) (l : LeaseRow) → settled_lease (settle_file f) (settled_lease f l) ≡ settled_lease f l
unfolding settle_file
settled_lease_again f l =
    let k = settled_lease f l in
    let kept : list_any (λ o. is_under k.name o && o.connected) (filter (keeps_open f) f.opens) ≡ list_any (λ o. is_under l.name o && o.connected) f.opens =
    any_kept (λ o. is_under k.name o && o.connected) (keeps_open f) (dropped f k.name) f.opens
    ∙ ap (λ (n : LeaseName). list_any (λ o. is_under n o && o.connected) f.opens) (name-settled_lease f l) in
    settled_again_here l l.breaking (list_any (λ o. is_under l.name o && o.connected) f.opens) (list_any (λ o. is_under k.name o && o.connected) (filter (keeps_open f) f.opens)) refl (λ e. kept ∙ e)

lacks_again : (f : FileView) (l : LeaseRow) → lacks_handle (settle_file f) (settled_lease f l) ≡ lacks_handle f l
lacks_again f l = ap (λ (k : LeaseRow). not (has k.held.0 2)) (settled_lease_again f l)

none_kept : (p : LeaseRow → Bool) (b : Bool) (l : LeaseRow) (ls : List LeaseRow) → p l ≡ false → list_any p ls ≡ false → list_any p (cond b (l ∷ ls) ls) ≡ false
none_kept p true l ls e f = ap (λ b. b || list_any p ls) e ∙ f
none_kept p false l ls e f = f

-- a lease that doesn't lack HANDLE doesn't come to lack it
none_lack : (f : FileView) (ls : List LeaseRow) → list_any (lacks_handle f) ls ≡ false → list_any (lacks_handle (settle_file f)) (filter (keeps_lease f) (map (settled_lease f) ls)) ≡ false
none_lack f [] e = refl
none_lack f (l ∷ ls) e =
    let parts = or_parts (lacks_handle f l) (list_any (lacks_handle f) ls) e in
    none_kept (lacks_handle (settle_file f)) (keeps_lease f (settled_lease f l)) (settled_lease f l) (filter (keeps_lease f) (map (settled_lease f) ls)) (lacks_again f l ∙ parts.0) (none_lack f ls parts.1)

kept_case : (f : FileView) (b : Bool) (o : Option LeaseName) → (b || not (option_map_or (λ name. list_any (lacks_handle f) (f.leases name)) o false)) ≡ true
    → (b || not (option_map_or (λ name. list_any (lacks_handle (settle_file f)) ((settle_file f).leases name)) o false)) ≡ true
unfolding settle_file
kept_case f true o e = refl
kept_case f false None e = refl
kept_case f false (Some name) e = ap not (none_lack f (f.leases name) (not-true (list_any (lacks_handle f) (f.leases name)) e))

-- an open that stays would stay again
pub kept_twice : (f : FileView) (o : FileOpen) → keeps_open f o ≡ true → keeps_open (settle_file f) o ≡ true
kept_twice f o e = kept_case f o.connected o.row.lease e

range_kept : (f : FileView) (range : RangeRow) → keeps_range (settle_file f) range ≡ true
unfolding settle_file
range_kept f range =
    ap not (any_same (λ o. same_id o.row.id range.id && not (keeps_open (settle_file f) o)) (λ _. false) (keeps_open f)
    (λ o h. ap (λ b. same_id o.row.id range.id && not b) (kept_twice f o h) ∙ and-false (same_id o.row.id range.id)) f.opens
    ∙ any_none (λ _. false) (λ _. refl) (filter (keeps_open f) f.opens))

under_kept : (f : FileView) (name : LeaseName) (o : FileOpen) → keeps_open f o ≡ false → (is_under name o && keeps_open f o) ≡ false
under_kept f name o e = and_right (is_under name o) (keeps_open f o) e

-- a lease that stays would stay again
pub lease_kept : (f : FileView) (l : LeaseRow) → keeps_lease f l ≡ true → keeps_lease (settle_file f) l ≡ true
unfolding settle_file
lease_kept f l e =
    any_same (λ o. is_under l.name o && keeps_open (settle_file f) o) (λ o. is_under l.name o && keeps_open f o) (keeps_open f)
    (λ o h. ap (λ b. is_under l.name o && b) (kept_twice f o h ∙ sym h)) f.opens
    ∙ any_kept (λ o. is_under l.name o && keeps_open f o) (keeps_open f) (under_kept f l.name) f.opens ∙ e

-- a file that keeps an open would keep one again
pending_kept : (f : FileView) → keeps_pending (settle_file f) ≡ keeps_pending f
unfolding settle_file
pending_kept f =
    any_same (keeps_open (settle_file f)) (keeps_open f) (keeps_open f) (λ o h. kept_twice f o h ∙ sym h) f.opens
    ∙ any_kept (keeps_open f) (keeps_open f) (λ o h. h) f.opens

and_twice : (p k : Bool) → ((p && k) && k) ≡ (p && k)
and_twice true true = refl
and_twice true false = refl
and_twice false k = refl

pub settle_file-twice : (f : FileView) → settle_file (settle_file f) ≡ settle_file f
unfolding settle_file
settle_file-twice f = λ i. record f {
  opens = filter_kept (keeps_open f) (keeps_open (settle_file f)) (kept_twice f) f.opens i;
  ranges = filter_all (keeps_range (settle_file f)) (range_kept f) (filter (keeps_range f) f.ranges) i;
  leases = λ name. (ap (filter (keeps_lease (settle_file f))) (map_again (settled_lease f) (settled_lease (settle_file f)) (settled_lease_again f) (keeps_lease f) (f.leases name))
      ∙ filter_kept (keeps_lease f) (keeps_lease (settle_file f)) (lease_kept f) (map (settled_lease f) (f.leases name))) i;
  pending = (ap (λ b. (f.pending && keeps_pending f) && b) (pending_kept f) ∙ and_twice f.pending (keeps_pending f)) i;
}
