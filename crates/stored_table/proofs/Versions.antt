-- A share mode record that has a spelling has one in the version in which it is written.
use Rattle.std.proofs.Common.{◌≡◌, Bool, true, false, cond, ◌&&◌, not, List, [], ◌∷◌, Option, Some, None, refl}
use Rattle.std.specs.Prelude.{IfSome}
use Rattle.std.specs.List.{list_any, AllByRecursion}
use Rattle.std.proofs.lemmas.Bool.{or_parts}
use Rattle.record_codec.specs.declared.share_rec.ShareEntry.{ShareEntry}
use Rattle.record_codec.specs.declared.share_rec.ShareRec.{ShareRec}
use Rattle.record_codec.specs.ShareRec.{share_rec, HasNoMark}
use Rattle.record_codec.proofs.ShareExact.{share_set, old_share_set}
use Rattle.stored_table.specs.Exact.{says_delete, share_version}

-- ---- values

pub some_from : {A : Type 0} (P Q : A → Type 0) (o : Option A) → ((x : A) → P x → Q x) → IfSome o P → IfSome o Q
some_from P Q None f h = tt
some_from P Q (Some x) f h = f x h

none_marked : (es : List ShareEntry) → list_any (λ e. e.marked) es ≡ false → AllByRecursion (λ e. e.marked ≡ false) es
none_marked [] h = tt
none_marked (e ∷ es) h = let p = or_parts e.marked (list_any (λ x. x.marked) es) h in (p.0, none_marked es p.1)

no_mark : (r : ShareRec) → says_delete r ≡ false → HasNoMark r
no_mark r h = let p = or_parts r.pending (list_any (λ e. e.marked) r.entries) h in record { pending = p.0; entries = none_marked r.entries p.1 }

by_version : (r : ShareRec) (old says : Bool) → says_delete r ≡ says → share_rec.valid (2, r) → share_rec.valid (cond (old && not says) 1 2, r)
by_version r true false e h = (old_share_set r).0 ((share_set r).1 h, no_mark r e)
by_version r true true e h = h
by_version r false says e h = h

pub share_valid : (old : Bool) (r : ShareRec) → share_rec.valid (2, r) → share_rec.valid (share_version old r, r)
share_valid old r h = by_version r old (says_delete r) refl h

pub share_some_valid : (old : Bool) (o : Option ShareRec) → IfSome o (λ r. share_rec.valid (2, r)) → IfSome o (λ r. share_rec.valid (share_version old r, r))
share_some_valid old o h = some_from (λ r. share_rec.valid (2, r)) (λ r. share_rec.valid (share_version old r, r)) o (share_valid old) h
