pub mod FollowerLemmas
