-- Lists that are gone through one by one.
use Rattle.std.proofs.Common.{◌≡◌, ℕ, ◌<◌, ◌≤◌, ◌+◌, sym, ap, ◌∙◌, List, [], ◌∷◌, ◌++◌, length, get_or, drop, append_assoc}
use Rattle.std.proofs.lemmas.List.{append-nil, drop_all}
use Rattle.mk_lists.proofs.Places.{drop_read}
