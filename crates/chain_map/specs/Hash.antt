-- Which chain a key goes to.
use Rattle.std.specs.Prelude.{ℕ, ◌+◌, ◌-◌, ◌*◌, ◌%◌, ◌^◌, List, fold}
use Rattle.chain_map.specs.declared.db.Db.{Db}
use Rattle.chain_map.specs.declared.db.Db.TheVariants.{Opens, GLock, Locking, Leases, Register, Brlock, Mailbox}

-- the databases are numbered from 1
abbrev pub db_number : Db → ℕ
db_number Opens = 1
db_number GLock = 2
db_number Locking = 3
db_number Leases = 4
db_number Register = 5
db_number Brlock = 6
db_number Mailbox = 7

-- the hash of bytes, and of one more behind them
abbrev pub hash_with : ℕ → ℕ → ℕ
hash_with hash byte = (hash * 31 + byte) % 2 ^ 32

abbrev pub key_hash : List ℕ → ℕ
key_hash key = fold hash_with 0 key

-- each database has so many chains, one database after another
abbrev pub chain_number : Db → List ℕ → ℕ → ℕ
chain_number db key chains = (db_number db - 1) * chains + key_hash key % chains
