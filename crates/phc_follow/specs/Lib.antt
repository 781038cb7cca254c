pub mod FollowerView
