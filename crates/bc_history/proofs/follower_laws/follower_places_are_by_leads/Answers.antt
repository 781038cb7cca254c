use Rattle.bc_history.proofs.lemmas.FollowerEntriesLemmas.{leading_by-due, place-by_lead, place-unled}
use Rattle.bc_history.proofs.follower_laws.follower_places_are_by_leads.Goals as goal

pub returns : goal.returns
returns c = record { none = place-unled; some = place-by_lead; due = leading_by-due }
