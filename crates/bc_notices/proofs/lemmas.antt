pub mod FollowersLemmas
